-- What clap makes of the command `format` is what the arguments ask for.
use Rattle.std.proofs.Common.{◌≡◌, ◌∙◌, ℕ, Bool, cond, true, false, not, true≢false, List, [], ◌∷◌, ◌||◌, Option, Some, None, is_some, refl, sym, ap, ap₂, subst, codes}
use Rattle.std.specs.List.{AllByRecursion, find, fold, list_any}
use Rattle.std.specs.Option.{option_map, option_map_or}
use Rattle.std.specs.Prelude.{option_and_then, slice_get}
use Rattle.clap.specs.Facts.{explicit_source}
use Rattle.clap.specs.declared.error.kind.ErrorKind.TheVariants as kind
use Rattle.std.specs.Str.{bytes_eq}
use Rattle.std.proofs.lemmas.Option.{none-some, same_Some}
use Rattle.std.proofs.lemmas.Slice.Eq.{bytes_eq-Decides}
use Rattle.clap.specs.Kinds.{Kinds, or_else}
use Rattle.clap.specs.Walk.{Row, Rule, Walk, arg_by_long, default_rows, first_of, has_row, is_empty, nothing_held, reading_by, settled, walk, walk_from, with_default}
use Rattle.clap.specs.Simple.{Shape, built, entered, matches_of}
use Rattle.clap.specs.Takes.{is_given}
use Rattle.clap.specs.Faults.{check_fault, default_fault, defaults_fault, entered_fault, fault_of, given_default_fault, settle_fault, walk_fault}
use Rattle.uuid.specs.Text.{parsed}
use Rattle.command_line.specs.Command.{format_app}
use Rattle.command_line.specs.Options.{Options, Text, is_known, options_of, value_of}
use Rattle.command_line.specs.Requests.{format_of, format_with}
use Rattle.command_line.specs.Words.{is_stray}
use Rattle.command_line.specs.declared.request.FormatRequest.{FormatRequest}
use Rattle.command_line.proofs.ClapWalk.{HasOptions, Knows, fresh, neither, outcome_is, row, rows, walk_agrees, walk_at, when_none}

-- the command as clap builds it
abbrev top : Shape
top = (built format_app).top

-- ---- its options

-- an option of the command by its name
known_by : (name : Text) (a b c d e : Bool) → bytes_eq (codes "id") name ≡ a → bytes_eq (codes "blocks") name ≡ b → bytes_eq (codes "journal") name ≡ c
    → bytes_eq (codes "data-replicas") name ≡ d → bytes_eq (codes "meta-replicas") name ≡ e → (a || (b || (c || (d || (e || false))))) ≡ true → Knows top.rules name
known_by name true b c d e is_a is_b is_c is_d is_e any =
    subst (Knows top.rules) ((bytes_eq-Decides (codes "id") name).0 is_a) (record { required = true; by_long = refl; by_id = refl })
known_by name false true c d e is_a is_b is_c is_d is_e any =
    subst (Knows top.rules) ((bytes_eq-Decides (codes "blocks") name).0 is_b) (record { required = true; by_long = refl; by_id = refl })
known_by name false false true d e is_a is_b is_c is_d is_e any =
    subst (Knows top.rules) ((bytes_eq-Decides (codes "journal") name).0 is_c) (record { required = false; by_long = refl; by_id = refl })
known_by name false false false true e is_a is_b is_c is_d is_e any =
    subst (Knows top.rules) ((bytes_eq-Decides (codes "data-replicas") name).0 is_d) (record { required = false; by_long = refl; by_id = refl })
known_by name false false false false true is_a is_b is_c is_d is_e any =
    subst (Knows top.rules) ((bytes_eq-Decides (codes "meta-replicas") name).0 is_e) (record { required = false; by_long = refl; by_id = refl })
known_by name false false false false false is_a is_b is_c is_d is_e any = absurd (true≢false (sym any))

-- no option of the command has another name
unknown_by : (name : Text) → is_known name ≡ false → arg_by_long top.rules name ≡ None
unknown_by name other =
    let a = neither (bytes_eq (codes "id") name) _ other in
    let b = neither (bytes_eq (codes "blocks") name) _ a.1 in
    let c = neither (bytes_eq (codes "journal") name) _ b.1 in
    let d = neither (bytes_eq (codes "data-replicas") name) _ c.1 in
    let e = neither (bytes_eq (codes "meta-replicas") name) _ d.1 in
    rw (a.0, b.0, c.0, d.0, e.0) refl

options : HasOptions top
options = record { once = refl; known = λ name is. known_by name _ _ _ _ _ refl refl refl refl refl is; unknown = unknown_by; place = refl }

-- ---- what stands after the walk

-- the rules have no default
abbrev HasNoDefault : List Rule → Type 0
HasNoDefault = AllByRecursion (λ a. a.defaults ≡ [])

none_by_default : HasNoDefault top.rules
none_by_default = (refl, (refl, (refl, (refl, (refl, tt)))))

-- a default that is none changes nothing, and has no fault
with_none : (given : List Row) (a : Rule) → a.defaults ≡ [] → with_default given a ≡ given
with_none given a none = ap (λ values. cond (has_row a.id given) given (default_rows a.id (reading_by a) values given)) none ∙ go (has_row a.id given)
  where
    go : (b : Bool) → cond b given given ≡ given
    go true = refl
    go false = refl

none_fault : (given : List Row) (a : Rule) → a.defaults ≡ [] → default_fault given a ≡ []
none_fault given a none = ap (λ values. cond (has_row a.id given || is_empty values) [] (given_default_fault a values)) none ∙ go (has_row a.id given)
  where
    go : (b : Bool) → cond (b || true) [] (given_default_fault a []) ≡ []
    go true = refl
    go false = refl

no_defaults : (c : List Rule) → HasNoDefault c → (given : List Row) → fold with_default given c ≡ given
no_defaults [] none given = refl
no_defaults (a ∷ c) none given = ap (λ rs. fold with_default rs c) (with_none given a none.0) ∙ no_defaults c none.1 given

no_default_fault : (c : List Rule) → HasNoDefault c → (given : List Row) → defaults_fault given c ≡ []
unfolding defaults_fault
no_default_fault [] none given = refl
no_default_fault (a ∷ c) none given =
    ap (λ faults. or_else faults (defaults_fault (with_default given a) c)) (none_fault given a none.0)
    ∙ no_default_fault c none.1 (with_default given a)

-- the command has no subcommand to enter
no_entry : (stop : Option (Text × List Text)) → entered (built format_app) stop ≡ None
no_entry None = refl
no_entry (Some p) = refl

no_entry_fault : (stop : Option (Text × List Text)) → entered_fault (built format_app) stop ≡ []
no_entry_fault None = refl
no_entry_fault (Some p) = refl

-- ---- what the rows give

-- a row has the value that is given
first_given : (name : Text) (given : Options) → first_of name (rows given) ≡ value_of name given
first_given name [] = refl
first_given name (option ∷ given) = go (bytes_eq option.0 name) (first_given name given)
  where
    go : (b : Bool) → first_of name (rows given) ≡ value_of name given
        → option_and_then (λ (r : Row). slice_get r.values 0) (cond b (Some (row option)) (find (λ r. bytes_eq r.id name) (rows given)))
        ≡ option_map (λ (o : Text × Text). o.1) (cond b (Some option) (find (λ o. bytes_eq o.0 name) given))
    go true e = refl
    go false e = e

-- a row is there where its option is given
row_is_given : (name : Text) (given : Options) → is_given name (rows given) ≡ is_some (value_of name given)
row_is_given name [] = refl
row_is_given name (option ∷ given) = go (bytes_eq option.0 name) (row_is_given name given)
  where
    go : (b : Bool) → is_given name (rows given) ≡ is_some (value_of name given)
        → option_map_or (λ (r : Row). explicit_source r.source) (cond b (Some (row option)) (find (λ r. bytes_eq r.id name) (rows given))) false
        ≡ is_some (option_map (λ (o : Text × Text). o.1) (cond b (Some option) (find (λ o. bytes_eq o.0 name) given)))
    go true e = refl
    go false e = e

-- without an id, or without a number of blocks, there is no request
without_id : (value : Text → Option Text) → value (codes "id") ≡ None → format_with value ≡ None
without_id value none = rw none refl

without_blocks : (value : Text → Option Text) → value (codes "blocks") ≡ None → format_with value ≡ None
without_blocks value none = rw none (go (option_and_then parsed (value (codes "id"))))
  where
    go : (o : Option (List ℕ)) → ◌≡◌ {A = Option FormatRequest} (option_and_then (λ id. None) o) None
    go None = refl
    go (Some id) = refl

-- the options that have to be there are missing
abbrev missing : List Row → Bool
missing given = not (is_given (codes "id") given) || (not (is_given (codes "blocks") given) || false)

-- what is missing is a fault, and else what the rows give is the request
checked : (given : Options) (id blocks : Option Text) → value_of (codes "id") given ≡ id → value_of (codes "blocks") given ≡ blocks
    → when_none (cond (missing (rows given)) (kind.MissingRequiredArgument ∷ []) []) (format_with (λ name. first_of name (rows given))) ≡ format_with (λ name. value_of name given)
checked given None blocks no_id e =
    ap (λ b. when_none (cond (not b || (not (is_given (codes "blocks") (rows given)) || false)) (kind.MissingRequiredArgument ∷ []) []) (format_with (λ name. first_of name (rows given))))
    (row_is_given (codes "id") given ∙ ap is_some no_id)
    ∙ sym (without_id (λ name. value_of name given) no_id)
checked given (Some id) None is_id no_blocks =
    ap₂ (λ a b. when_none (cond (not a || (not b || false)) (kind.MissingRequiredArgument ∷ []) []) (format_with (λ name. first_of name (rows given))))
    (row_is_given (codes "id") given ∙ ap is_some is_id) (row_is_given (codes "blocks") given ∙ ap is_some no_blocks)
    ∙ sym (without_blocks (λ name. value_of name given) no_blocks)
checked given (Some id) (Some blocks) is_id is_blocks =
    ap₂ (λ a b. when_none (cond (not a || (not b || false)) (kind.MissingRequiredArgument ∷ []) []) (format_with (λ name. first_of name (rows given))))
    (row_is_given (codes "id") given ∙ ap is_some is_id) (row_is_given (codes "blocks") given ∙ ap is_some is_blocks)
    ∙ (λ i. format_with (λ name. first_given name given i))

-- ---- the whole

-- where the walk and the last option have no fault, what is given decides
decided : {X : Type 0} (walking ending checking : Kinds) (found : List Row) (o : Option Options) (answer : Option X) (means : Options → Option X)
    → when_none walking (when_none ending (Some found)) ≡ option_map rows o → ((given : Options) → found ≡ rows given → when_none checking answer ≡ means given)
    → when_none (or_else walking (or_else ending checking)) answer ≡ option_and_then means o
decided (k ∷ ks) ending checking found None answer means e f = refl
decided (k ∷ ks) ending checking found (Some given) answer means e f = absurd (none-some (rows given) e)
decided [] (k ∷ ks) checking found None answer means e f = refl
decided [] (k ∷ ks) checking found (Some given) answer means e f = absurd (none-some (rows given) e)
decided [] [] checking found None answer means e f = absurd (none-some found (sym e))
decided [] [] checking found (Some given) answer means e f = f given (same_Some found (rows given) e)

module _ (words : List Text) where
  abbrev end : Walk
  end = walk top.rules [] nothing_held words

  abbrev found : List Row
  found = (settled top.rules end.held).rows

  -- the rows and the faults of the command, without those that it can't have
  matches_are : matches_of format_app words ≡ found
  matches_are = no_defaults top.rules none_by_default found

  faults_are : fault_of format_app words
      ≡ or_else (walk_fault top [] (walk_from nothing_held) words) (or_else (settle_fault top.rules top.args_override_self end.held) (cond (missing found) (kind.MissingRequiredArgument ∷ []) []))
  faults_are =
      let walking = walk_fault top [] (walk_from nothing_held) words in
      let ending = settle_fault top.rules top.args_override_self end.held in
      ap (λ below. or_else walking (or_else below (or_else ending (or_else (defaults_fault found top.rules)
      (check_fault top (matches_of format_app words) (is_some (entered (built format_app) end.stopped))))))) (no_entry_fault end.stopped)
      ∙ ap (λ defaults. or_else walking (or_else ending (or_else defaults
      (check_fault top (matches_of format_app words) (is_some (entered (built format_app) end.stopped)))))) (no_default_fault top.rules none_by_default found)
      ∙ ap₂ (λ rs inner. or_else walking (or_else ending (check_fault top rs (is_some inner)))) matches_are (no_entry end.stopped)

  -- what clap makes of arguments without a stray one is what they ask for
  pub clap_is_format : list_any is_stray words ≡ false
      → when_none (fault_of format_app words) (format_with (λ name. first_of name (matches_of format_app words))) ≡ format_of words
  clap_is_format plain =
      ap₂ (λ faults rs. when_none faults (format_with (λ name. first_of name rs))) faults_are matches_are
      ∙ decided (walk_fault top [] (walk_from nothing_held) words) (settle_fault top.rules top.args_override_self end.held) (cond (missing found) (kind.MissingRequiredArgument ∷ []) [])
      found (options_of words) (format_with (λ name. first_of name found)) (λ given. format_with (λ name. value_of name given))
      (outcome_is top options (walk_at [] fresh) words ∙ walk_agrees top options words plain [] fresh tt)
      (λ given is. ap (λ rs. when_none (cond (missing rs) (kind.MissingRequiredArgument ∷ []) []) (format_with (λ name. first_of name rs))) is ∙ checked given _ _ refl refl)
