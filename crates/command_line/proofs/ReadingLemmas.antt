-- Arguments that `read_options` refuses.
use Rattle.std.proofs.Common.{◌≡◌, ◌∙◌, ◌⊎◌, ℕ, Bool, cond, true, false, not, true≢false, List, [], ◌∷◌, ◌++◌, ◌==◌, ◌&&◌, ◌||◌, Option, Some, None, inl, inr, refl, sym, ap}
use Rattle.std.specs.List.{list_any}
use Rattle.command_line.specs.Options.{Options, Text, begun, has_hyphen, has_name, is_known, long_word, may_give, read_options}
use Rattle.command_line.specs.Words.{is_stray}

-- a choice between none and none
pub either_none : {X : Type 0} (b : Bool) (o : Option X) → o ≡ None → cond b o None ≡ None
either_none true o none = none
either_none false o none = refl

-- a name that is no option's may not be given
pub unknown_not : (name : Text) (given : Options) → is_known name ≡ false → may_give name given ≡ false
unknown_not name given other = ap (λ b. b && not (has_name name given)) other

-- a name that is no option's waits in vain
pub waits_in_vain : (given : Options) (name : Text) (words : List Text) → is_known name ≡ false → read_options given (Some name) words ≡ None
unfolding read_options
waits_in_vain given name [] other = refl
waits_in_vain given name (word ∷ words) other =
    ap (λ b. cond (b && not (has_hyphen word)) (read_options (given ++ (name, word) ∷ []) None words) None) (unknown_not name given other)

-- What a stray argument is: it begins with a hyphen, and is no option or one without a name.
record IsStray (word : Text) : Type 0 where
  pub hyphen : has_hyphen word ≡ true
  pub no_name : (long_word word ≡ None) ⊎ (long_word word ≡ Some ([], None))

-- an argument of a hyphen and one byte more
short_stray : (x y : ℕ) → (x == 45) ≡ true → (second : Bool) → (y == 45) ≡ second → IsStray (x ∷ y ∷ [])
short_stray x y is_x true is_y = record { hyphen = is_x; no_name = inr (rw (is_x, is_y) refl) }
short_stray x y is_x false is_y = record { hyphen = is_x; no_name = inl (rw (is_x, is_y) refl) }

-- an argument of a hyphen and more bytes
long_stray : (x y z : ℕ) (rest : Text) (first second : Bool) → (x == 45) ≡ first → (y == 45) ≡ second → (first && not second) ≡ true → IsStray (x ∷ y ∷ z ∷ rest)
long_stray x y z rest true false is_x is_y e = record { hyphen = is_x; no_name = inl (rw (is_x, is_y) refl) }
long_stray x y z rest true true is_x is_y e = absurd (true≢false (sym e))
long_stray x y z rest false second is_x is_y e = absurd (true≢false (sym e))

stray_word : (word : Text) → is_stray word ≡ true → IsStray word
stray_word [] e = absurd (true≢false (sym e))
stray_word (x ∷ []) e = record { hyphen = e; no_name = inl refl }
stray_word (x ∷ y ∷ []) e = short_stray x y e _ refl
stray_word (x ∷ y ∷ z ∷ rest) e = long_stray x y z rest _ _ refl refl e

-- a stray argument is neither an option nor a value
stray_refused : (given : Options) (waiting : Option Text) (word : Text) (words : List Text) → IsStray word → read_options given waiting (word ∷ words) ≡ None
unfolding read_options
stray_refused given (Some name) word words is =
    ap (λ b. cond (may_give name given && not b) (read_options (given ++ (name, word) ∷ []) None words) None) is.hyphen ∙ go (may_give name given)
  where
    go : (b : Bool) → cond (b && false) (read_options (given ++ (name, word) ∷ []) None words) None ≡ None
    go true = refl
    go false = refl
stray_refused given None word words is = go is.no_name
  where
    begin : Option (Text × Option Text) → Option Options
    begin o = begun o given (λ more. read_options more None words) (λ name. read_options given (Some name) words)

    go : (long_word word ≡ None) ⊎ (long_word word ≡ Some ([], None)) → begin (long_word word) ≡ None
    go (inl none) = ap begin none
    go (inr nameless) = ap begin nameless ∙ waits_in_vain given [] words refl

-- what is refused after an argument is refused with it
begun_refused : (o : Option (Text × Option Text)) (given : Options) (further : Options → Option Options) (waiting : Text → Option Options)
    → ((more : Options) → further more ≡ None) → ((name : Text) → waiting name ≡ None) → begun o given further waiting ≡ None
begun_refused None given further waiting f w = refl
begun_refused (Some (name, None)) given further waiting f w = w name
begun_refused (Some (name, Some value)) given further waiting f w = either_none (may_give name given) (further (given ++ (name, value) ∷ [])) (f (given ++ (name, value) ∷ []))

-- arguments that are refused are so after any argument
refused_after : (words : List Text) → ((more : Options) (o : Option Text) → read_options more o words ≡ None) → (word : Text) (given : Options) (waiting : Option Text)
    → read_options given waiting (word ∷ words) ≡ None
unfolding read_options
refused_after words refused word given None =
    begun_refused (long_word word) given (λ more. read_options more None words) (λ name. read_options given (Some name) words) (λ more. refused more None) (λ name. refused given (Some name))
refused_after words refused word given (Some name) =
    either_none (may_give name given && not (has_hyphen word)) (read_options (given ++ (name, word) ∷ []) None words) (refused (given ++ (name, word) ∷ []) None)

-- the first argument is stray, or one after it
stray_first : (word : Text) (words : List Text) → (list_any is_stray words ≡ true → (more : Options) (o : Option Text) → read_options more o words ≡ None)
    → (stray : Bool) → is_stray word ≡ stray → (stray || list_any is_stray words) ≡ true → (given : Options) (waiting : Option Text) → read_options given waiting (word ∷ words) ≡ None
stray_first word words later true is any given waiting = stray_refused given waiting word words (stray_word word is)
stray_first word words later false is any given waiting = refused_after words (later any) word given waiting

-- arguments of which one is stray give no options
pub stray_words : (words : List Text) → list_any is_stray words ≡ true → (given : Options) (waiting : Option Text) → read_options given waiting words ≡ None
stray_words [] e given waiting = absurd (true≢false (sym e))
stray_words (word ∷ words) e given waiting = stray_first word words (stray_words words) _ refl e given waiting
