-- The walk of clap over arguments that are long options reads what `read_options` reads.
use Rattle.std.proofs.Common.{◌≡◌, ◌∙◌, ◌⊎◌, Bool, cond, if◌then◌else◌, true, false, not, true≢false, List, [], ◌∷◌, ◌++◌, map, ◌&&◌, ◌||◌, Option, Some, None, inl, inr, refl, sym, ap, ap₂, append-nil}
use Rattle.std.specs.List.{fold, list_any}
use Rattle.std.specs.Option.{option_map}
use Rattle.std.specs.Str.{bytes_eq}
use Rattle.std.proofs.lemmas.List.{map-append}
use Rattle.std.proofs.lemmas.Slice.Eq.{bytes_eq-Decides}
use Rattle.clap.specs.Kinds.{Kinds, or_else}
use Rattle.clap.specs.Walk.{Held, Row, Rule, Walk, arg_by_id, arg_by_index, arg_by_long, at_row, has_row, idle, more_values, option, reacted, settled, used, walked}
use Rattle.clap.specs.Simple.{Shape, new_rule}
use Rattle.clap.specs.Faults.{react_fault, settle_fault, stray_fault, turn_fault, use_fault, walk_fault}
use Rattle.clap.specs.Values.{reading_of}
use Rattle.clap.specs.declared.builder.action.ArgAction.TheVariants.{Set}
use Rattle.clap.specs.declared.builder.value_parser.ValueParser.TheVariants as vp
use Rattle.clap.specs.declared.error.kind.ErrorKind.TheVariants as kind
use Rattle.clap.specs.declared.parser.matches.ValueSource.TheVariants.{CommandLine}
use Rattle.command_line.specs.Options.{Options, Text, has_hyphen, has_name, is_known, may_give, read_options}
use Rattle.command_line.specs.Words.{is_stray}
use Rattle.command_line.proofs.ReadingLemmas.{unknown_not, waits_in_vain}
use Rattle.command_line.proofs.WordLemmas.{any_of_mapped}
use Rattle.command_line.proofs.WordShapes.{IsLongWord, IsPlainWord, word_shape}

-- ---- what clap keeps of options that were given

-- an option as clap builds it: it takes one value, of any text
abbrev pub rule : Text → Bool → Rule
rule name required = record (new_rule name) {
  long = Some name;
  action = Some Set;
  range = Some (record { start_inclusive = 1; end_inclusive = 1 });
  parser = Some vp.String;
  required = required;
}

-- what clap keeps of a value
abbrev pub row : Text × Text → Row
row given = record {
  id = given.0;
  values = given.1 ∷ [];
  count = None;
  source = Some CommandLine;
  reading = reading_of vp.String;
}

abbrev pub rows : Options → List Row
rows = map row

-- the rows have a name where it is given
pub has_row_given : (name : Text) (given : Options) → has_row name (rows given) ≡ has_name name given
has_row_given name given = sym (any_of_mapped (λ r. bytes_eq r.id name) row given)

-- neither half of an `or` that fails
pub neither : (a b : Bool) → (a || b) ≡ false → (a ≡ false) × (b ≡ false)
neither false b e = (refl, e)
neither true b e = absurd (true≢false e)

-- a change at a name that no row has leaves the rows, with what is missing after them
at_new : (id : Text) (change : Row → List Row) (missing given : List Row) → has_row id given ≡ false → at_row id change missing given ≡ given ++ missing
at_new id change missing [] new = refl
at_new id change missing (r ∷ rs) new =
    let parts = neither (bytes_eq r.id id) (has_row id rs) new in
    rw parts.0 (ap (λ more. r ∷ more) (at_new id change missing rs parts.1))

-- the use of an option that is new is one more row
used_new : (name value : Text) (required : Bool) (given : Options) → has_name name given ≡ false
    → used (rule name required) (value ∷ []) (rows given) ≡ rows (given ++ (name, value) ∷ [])
used_new name value required given new =
    let none : has_row name (rows given) ≡ false = has_row_given name given ∙ new in
    let kept : at_row name (λ _. []) [] (rows given) ≡ rows given = at_new name (λ _. []) [] (rows given) none ∙ append-nil (rows given) in
    let change : Row → List Row = more_values CommandLine (value ∷ []) in
    ap (at_row name change (row (name, value) ∷ [])) kept ∙ (at_new name change (row (name, value) ∷ []) (rows given) none ∙ sym (map-append row given ((name, value) ∷ [])))

-- ---- faults

-- a value, where there is no fault
abbrev pub when_none : {X : Type 0} → Kinds → Option X → Option X
when_none [] o = o
when_none (k ∷ ks) o = None

pub when_neither : {X : Type 0} (a b : Kinds) (o : Option X) → when_none (or_else a b) o ≡ when_none a (when_none b o)
when_neither [] b o = refl
when_neither (k ∷ ks) b o = refl

-- the use of an option that is new has no fault, and of one that is given it has
use_is_new : (name value : Text) (required : Bool) (given : Options) → has_name name given ≡ false → use_fault false (rule name required) (value ∷ []) (rows given) ≡ []
use_is_new name value required given new = rw (has_row_given name given ∙ new) refl

use_is_again : (name value : Text) (required : Bool) (given : Options) → has_name name given ≡ true
    → use_fault false (rule name required) (value ∷ []) (rows given) ≡ kind.ArgumentConflict ∷ []
use_is_again name value required given again = rw (has_row_given name given ∙ again) refl

-- an argument that nothing takes is a fault
stray_is_fault : {X : Type 0} (s : Shape) (o : Option X) → when_none (stray_fault s) o ≡ None
stray_is_fault s o = go s.is_leaf
  where
    go : (leaf : Bool) → when_none (cond leaf (kind.UnknownArgument ∷ []) (kind.UnknownArgument ∷ kind.InvalidSubcommand ∷ [])) o ≡ None
    go true = refl
    go false = refl

-- ---- the walk

-- between two options, and after the name of one that waits for its value
abbrev pub idle_walk : Held → Walk
idle_walk held = record { held = held; waiting = idle; position = 1; is_trailing = false; stopped = None }

abbrev pub waiting_walk : Text → Held → Walk
waiting_walk name held = record { held = held; waiting = option name; position = 1; is_trailing = false; stopped = None }

-- where the walk stands after the options that are given: with none that is still to be noted, with one that has its
-- value, or with a name that has none yet
pub data Stage : Type 0 where
  fresh : Stage
  full : Text → Text → Stage
  empty : Text → Stage

abbrev pub held_at : Options → Stage → Held
held_at given fresh = record { rows = rows given; pending = None; skip = 0 }
held_at given (full name value) = record { rows = rows given; pending = Some (name, value ∷ []); skip = 0 }
held_at given (empty name) = record { rows = rows given; pending = Some (name, []); skip = 0 }

abbrev pub walk_at : Options → Stage → Walk
walk_at given fresh = idle_walk (held_at given fresh)
walk_at given (full name value) = idle_walk (held_at given (full name value))
walk_at given (empty name) = waiting_walk name (held_at given (empty name))

-- the name of the stage is an option's
abbrev pub HasName : Stage → Type 0
HasName fresh = Unit {0}
HasName (full name value) = is_known name ≡ true
HasName (empty name) = is_known name ≡ true

-- what the arguments give from there on
abbrev pub read_at : Options → Stage → List Text → Option Options
read_at given fresh words = read_options given None words
read_at given (full name value) words = if has_name name given then None else read_options (given ++ (name, value) ∷ []) None words
read_at given (empty name) words = read_options given (Some name) words

-- The rules have an option of this name.
pub record Knows (c : List Rule) (name : Text) : Type 0 where
  pub required : Bool
  pub by_long : arg_by_long c name ≡ Some (rule name required)
  pub by_id : arg_by_id c name ≡ Some (rule name required)

-- The rules are those of the options, and no others.
pub record HasOptions (s : Shape) : Type 0 where
  pub once : s.args_override_self ≡ false
  pub known : (name : Text) → is_known name ≡ true → Knows s.rules name
  pub unknown : (name : Text) → is_known name ≡ false → arg_by_long s.rules name ≡ None
  pub place : arg_by_index s.rules 1 ≡ None

module _ (s : Shape) (has : HasOptions s) where
  -- the rows where the arguments end, if there is no fault
  abbrev pub ends : Held → Option (List Row)
  ends held = when_none (settle_fault s.rules s.args_override_self held) (Some (settled s.rules held).rows)

  -- the rows after the arguments, if there is no fault
  unfoldable pub outcome : Walk → List Text → Option (List Row)
  outcome w [] = ends w.held
  outcome w (word ∷ words) = when_none (turn_fault s [] w word) (outcome (walked s.rules [] w word) words)

  -- the same, as clap says it
  pub outcome_is : (w : Walk) (words : List Text)
      → when_none (walk_fault s [] w words) (ends (fold (walked s.rules []) w words).held) ≡ outcome w words
  unfolding outcome walk_fault
  outcome_is w [] = refl
  outcome_is w (word ∷ words) =
      when_neither (turn_fault s [] w word) (walk_fault s [] (walked s.rules [] w word) words) _
      ∙ ap (when_none (turn_fault s [] w word)) (outcome_is (walked s.rules [] w word) words)

  -- a turn with a fault ends it, and a turn with none goes on
  refused_turn : (w : Walk) (word : Text) (words : List Text) (k : _) (ks : Kinds) → turn_fault s [] w word ≡ k ∷ ks → outcome w (word ∷ words) ≡ None
  unfolding outcome
  refused_turn w word words k ks e = ap (λ faults. when_none faults (outcome (walked s.rules [] w word) words)) e

  passed_turn : (w after : Walk) (word : Text) (words : List Text) → turn_fault s [] w word ≡ [] → walked s.rules [] w word ≡ after → outcome w (word ∷ words) ≡ outcome after words
  unfolding outcome
  passed_turn w after word words e to = ap (λ faults. when_none faults (outcome (walked s.rules [] w word) words)) e ∙ ap (λ v. outcome v words) to

  -- an argument that is no option, between two options, is a fault
  plain_word_refused : (held : Held) (word : Text) (words : List Text) → IsPlainWord word → outcome (idle_walk held) (word ∷ words) ≡ None
  unfolding outcome
  plain_word_refused held word words is =
      let turn : turn_fault s [] (idle_walk held) word ≡ stray_fault s = rw (is.dashes, is.long, is.short, has.place) refl in
      ap (λ faults. when_none faults (outcome (walked s.rules [] (idle_walk held) word) words)) turn ∙ stray_is_fault s (outcome (walked s.rules [] (idle_walk held) word) words)

  -- an option of no known name is a fault
  unknown_refused : (held : Held) (word name : Text) (value : Option Text) (words : List Text) → IsLongWord word name value → is_known name ≡ false
      → outcome (idle_walk held) (word ∷ words) ≡ None
  unknown_refused held word name value words is other =
      refused_turn (idle_walk held) word words kind.UnknownArgument [] (rw (is.dashes, is.long, has.unknown name other) refl)

  -- the turn of an option with its own value, and of one whose value is to come
  value_turn : (held : Held) (word name value : Text) → IsLongWord word name (Some value) → (k : Knows s.rules name)
      → turn_fault s [] (idle_walk held) word ≡ or_else (react_fault s.rules s.args_override_self (rule name k.required) (value ∷ []) held) []
  value_turn held word name value is k = rw (is.dashes, is.long, k.by_long) refl

  name_turn : (held : Held) (word name : Text) → IsLongWord word name None → (k : Knows s.rules name)
      → turn_fault s [] (idle_walk held) word ≡ or_else (settle_fault s.rules s.args_override_self held) []
  name_turn held word name is k = rw (is.dashes, is.long, k.by_long) refl

  value_walked : (held : Held) (word name value : Text) → IsLongWord word name (Some value) → (k : Knows s.rules name)
      → walked s.rules [] (idle_walk held) word ≡ idle_walk (reacted s.rules (rule name k.required) (value ∷ []) held)
  unfolding walked
  value_walked held word name value is k = rw (is.dashes, is.long, k.by_long) refl

  name_walked : (held : Held) (word name : Text) → IsLongWord word name None → (k : Knows s.rules name)
      → walked s.rules [] (idle_walk held) word ≡ waiting_walk name (record (settled s.rules held) { pending = Some (name, []) })
  unfolding walked
  name_walked held word name is k = rw (is.dashes, is.long, k.by_long) refl

  -- where what is held has a fault, each option has it
  blocked : (held : Held) (word name : Text) (value : Option Text) (words : List Text) → IsLongWord word name value → Knows s.rules name → (k : _) (ks : Kinds)
      → settle_fault s.rules s.args_override_self held ≡ k ∷ ks → outcome (idle_walk held) (word ∷ words) ≡ None
  blocked held word name None words is knows k ks e =
      refused_turn (idle_walk held) word words k ks (name_turn held word name is knows ∙ ap (λ faults. or_else faults []) e)
  blocked held word name (Some value) words is knows k ks e =
      refused_turn (idle_walk held) word words k ks (value_turn held word name value is knows
      ∙ ap (λ faults. or_else (or_else faults (use_fault s.args_override_self (rule name knows.required) (value ∷ []) (settled s.rules held).rows)) []) e)

  -- What is held is these options, once the last is noted.
  record Holds (held : Held) (given : Options) : Type 0 where
    pub fault : settle_fault s.rules s.args_override_self held ≡ []
    pub rows_are : (settled s.rules held).rows ≡ rows given
    pub skip : held.skip ≡ 0

  -- the fault of the turn of an option with its value, by what is held
  value_fault : (held : Held) (given : Options) → Holds held given → (word name value : Text) → IsLongWord word name (Some value) → (k : Knows s.rules name)
      → turn_fault s [] (idle_walk held) word ≡ or_else (use_fault false (rule name k.required) (value ∷ []) (rows given)) []
  value_fault held given holds word name value is k =
      value_turn held word name value is k
      ∙ ap (λ faults. or_else (or_else faults (use_fault s.args_override_self (rule name k.required) (value ∷ []) (settled s.rules held).rows)) []) holds.fault
      ∙ ap (λ rs. or_else (use_fault s.args_override_self (rule name k.required) (value ∷ []) rs) []) holds.rows_are
      ∙ ap (λ again. or_else (use_fault again (rule name k.required) (value ∷ []) (rows given)) []) has.once

  value_held : (held : Held) (given : Options) → Holds held given → (name value : Text) (required : Bool) → has_name name given ≡ false
      → reacted s.rules (rule name required) (value ∷ []) held ≡ held_at (given ++ (name, value) ∷ []) fresh
  value_held held given holds name value required new =
      let noted : used (rule name required) (value ∷ []) (settled s.rules held).rows ≡ rows (given ++ (name, value) ∷ []) =
      ap (used (rule name required) (value ∷ [])) holds.rows_are ∙ used_new name value required given new in
      λ i. record { rows = noted i; pending = None; skip = holds.skip i }

  name_held : (held : Held) (given : Options) → Holds held given → (name : Text) → record (settled s.rules held) { pending = Some (name, []) } ≡ held_at given (empty name)
  name_held held given holds name = λ i. record { rows = holds.rows_are i; pending = Some (name, []); skip = holds.skip i }

  -- ---- what `read_options` does at the same argument

  read_plain : (given : Options) (word : Text) (words : List Text) → IsPlainWord word → read_options given None (word ∷ words) ≡ None
  unfolding read_options
  read_plain given word words is = rw is.ours refl

  read_value : (given : Options) (word name value : Text) (words : List Text) → IsLongWord word name (Some value)
      → read_options given None (word ∷ words) ≡ cond (may_give name given) (read_options (given ++ (name, value) ∷ []) None words) None
  unfolding read_options
  read_value given word name value words is = rw is.ours refl

  read_name : (given : Options) (word name : Text) (words : List Text) → IsLongWord word name None → read_options given None (word ∷ words) ≡ read_options given (Some name) words
  unfolding read_options
  read_name given word name words is = rw is.ours refl

  read_waiting : (given : Options) (word name : Text) (words : List Text)
      → read_options given (Some name) (word ∷ words) ≡ cond (may_give name given && not (has_hyphen word)) (read_options (given ++ (name, word) ∷ []) None words) None
  unfolding read_options
  read_waiting given word name words = refl

  -- a name that is given already may not be given, and one that is not may
  again_not : (name : Text) (given : Options) → is_known name ≡ true → has_name name given ≡ true → may_give name given ≡ false
  again_not name given known again = ap₂ (λ a b. a && not b) known again

  new_may : (name : Text) (given : Options) → is_known name ≡ true → has_name name given ≡ false → may_give name given ≡ true
  new_may name given known new = ap₂ (λ a b. a && not b) known new

  -- ---- the walk and the reading, argument by argument

  -- the two agree on the arguments, wherever they stand
  abbrev Agree : List Text → Type 0
  Agree words = (given : Options) (stage : Stage) → HasName stage → outcome (walk_at given stage) words ≡ option_map rows (read_at given stage words)

  value_agrees : (words : List Text) → Agree words → (held : Held) (given : Options) → Holds held given → (word name value : Text) → IsLongWord word name (Some value)
      → (known : Bool) → is_known name ≡ known → (again : Bool) → has_name name given ≡ again
      → outcome (idle_walk held) (word ∷ words) ≡ option_map rows (cond (may_give name given) (read_options (given ++ (name, value) ∷ []) None words) None)
  value_agrees words agree held given holds word name value is false other again e =
      unknown_refused held word name (Some value) words is other
      ∙ sym (ap (λ b. option_map rows (cond b (read_options (given ++ (name, value) ∷ []) None words) None)) (unknown_not name given other))
  value_agrees words agree held given holds word name value is true known true e =
      let k = has.known name known in
      refused_turn (idle_walk held) word words kind.ArgumentConflict [] (value_fault held given holds word name value is k
      ∙ ap (λ faults. or_else faults []) (use_is_again name value k.required given e))
      ∙ sym (ap (λ b. option_map rows (cond b (read_options (given ++ (name, value) ∷ []) None words) None)) (again_not name given known e))
  value_agrees words agree held given holds word name value is true known false e =
      let k = has.known name known in
      passed_turn (idle_walk held) (walk_at (given ++ (name, value) ∷ []) fresh) word words
      (value_fault held given holds word name value is k ∙ ap (λ faults. or_else faults []) (use_is_new name value k.required given e))
      (value_walked held word name value is k ∙ ap idle_walk (value_held held given holds name value k.required e))
      ∙ agree (given ++ (name, value) ∷ []) fresh tt
      ∙ sym (ap (λ b. option_map rows (cond b (read_options (given ++ (name, value) ∷ []) None words) None)) (new_may name given known e))

  name_agrees : (words : List Text) → Agree words → (held : Held) (given : Options) → Holds held given → (word name : Text) → IsLongWord word name None
      → (known : Bool) → is_known name ≡ known → outcome (idle_walk held) (word ∷ words) ≡ option_map rows (read_options given (Some name) words)
  name_agrees words agree held given holds word name is false other =
      unknown_refused held word name None words is other ∙ sym (ap (option_map rows) (waits_in_vain given name words other))
  name_agrees words agree held given holds word name is true known =
      let k = has.known name known in
      passed_turn (idle_walk held) (walk_at given (empty name)) word words
      (name_turn held word name is k ∙ ap (λ faults. or_else faults []) holds.fault)
      (name_walked held word name is k ∙ ap (waiting_walk name) (name_held held given holds name))
      ∙ agree given (empty name) known

  idle_agrees : (words : List Text) → Agree words → (held : Held) (given : Options) → Holds held given → (word : Text)
      → IsPlainWord word ⊎ ((name : Text) × (value : Option Text) × IsLongWord word name value)
      → outcome (idle_walk held) (word ∷ words) ≡ option_map rows (read_options given None (word ∷ words))
  idle_agrees words agree held given holds word (inl is) =
      plain_word_refused held word words is ∙ sym (ap (option_map rows) (read_plain given word words is))
  idle_agrees words agree held given holds word (inr (name, None, is)) =
      name_agrees words agree held given holds word name is _ refl ∙ sym (ap (option_map rows) (read_name given word name words is))
  idle_agrees words agree held given holds word (inr (name, Some value, is)) =
      value_agrees words agree held given holds word name value is _ refl _ refl ∙ sym (ap (option_map rows) (read_value given word name value words is))

  -- with nothing to note, what is held is what is given
  fresh_holds : (given : Options) → Holds (held_at given fresh) given
  fresh_holds given = record { fault = refl; rows_are = refl; skip = refl }

  -- a value to note is one more option where its name is new, and a fault where it is given
  full_fault : (given : Options) (name value : Text) (k : Knows s.rules name)
      → settle_fault s.rules s.args_override_self (held_at given (full name value)) ≡ use_fault false (rule name k.required) (value ∷ []) (rows given)
  full_fault given name value k = rw (k.by_id, has.once) refl

  full_rows : (given : Options) (name value : Text) (k : Knows s.rules name)
      → (settled s.rules (held_at given (full name value))).rows ≡ used (rule name k.required) (value ∷ []) (rows given)
  full_rows given name value k = rw k.by_id refl

  full_holds : (given : Options) (name value : Text) → Knows s.rules name → has_name name given ≡ false → Holds (held_at given (full name value)) (given ++ (name, value) ∷ [])
  full_holds given name value k new = record {
    fault = full_fault given name value k ∙ use_is_new name value k.required given new;
    rows_are = full_rows given name value k ∙ used_new name value k.required given new;
    skip = refl;
  }

  full_blocked : (given : Options) (name value : Text) → Knows s.rules name → has_name name given ≡ true
      → settle_fault s.rules s.args_override_self (held_at given (full name value)) ≡ kind.ArgumentConflict ∷ []
  full_blocked given name value k again = full_fault given name value k ∙ use_is_again name value k.required given again

  -- a name to note without a value is a fault
  empty_fault : (given : Options) (name : Text) → Knows s.rules name → settle_fault s.rules s.args_override_self (held_at given (empty name)) ≡ kind.InvalidValue ∷ []
  empty_fault given name k = rw k.by_id refl

  -- where a fault is held, no argument mends it
  blocked_word : (held : Held) (k : _) (ks : Kinds) → settle_fault s.rules s.args_override_self held ≡ k ∷ ks → (word : Text) (words : List Text)
      → IsPlainWord word ⊎ ((name : Text) × (value : Option Text) × IsLongWord word name value) → outcome (idle_walk held) (word ∷ words) ≡ None
  blocked_word held k ks e word words (inl is) = plain_word_refused held word words is
  blocked_word held k ks e word words (inr (name, value, is)) = go (is_known name) refl
    where
      go : (known : Bool) → is_known name ≡ known → outcome (idle_walk held) (word ∷ words) ≡ None
      go false other = unknown_refused held word name value words is other
      go true known = blocked held word name value words is (has.known name known) k ks e

  full_agrees : (words : List Text) → Agree words → (given : Options) (name value : Text) → is_known name ≡ true → (word : Text)
      → IsPlainWord word ⊎ ((other : Text) × (its : Option Text) × IsLongWord word other its) → (again : Bool) → has_name name given ≡ again
      → outcome (walk_at given (full name value)) (word ∷ words) ≡ option_map rows (cond again None (read_options (given ++ (name, value) ∷ []) None (word ∷ words)))
  full_agrees words agree given name value known word shape true e =
      blocked_word (held_at given (full name value)) kind.ArgumentConflict [] (full_blocked given name value (has.known name known) e) word words shape
  full_agrees words agree given name value known word shape false e =
      idle_agrees words agree (held_at given (full name value)) (given ++ (name, value) ∷ []) (full_holds given name value (has.known name known) e) word shape

  -- ---- a name that waits

  taken_turn : (given : Options) (name word : Text) → Knows s.rules name → IsPlainWord word → turn_fault s [] (walk_at given (empty name)) word ≡ []
  taken_turn given name word k is = rw (is.dashes, is.long, is.short) refl

  taken_walked : (given : Options) (name word : Text) → Knows s.rules name → IsPlainWord word → walked s.rules [] (walk_at given (empty name)) word ≡ walk_at given (full name word)
  unfolding walked
  taken_walked given name word k is = rw (is.dashes, is.long, is.short, k.by_id, (bytes_eq-Decides name name).1 refl) refl

  unknown_waiting : (given : Options) (name word other : Text) (value : Option Text) → IsLongWord word other value → is_known other ≡ false
      → turn_fault s [] (walk_at given (empty name)) word ≡ kind.UnknownArgument ∷ []
  unknown_waiting given name word other value is no_name = rw (is.dashes, is.long, has.unknown other no_name) refl

  known_waiting : (given : Options) (name word other : Text) (value : Option Text) → Knows s.rules name → IsLongWord word other value → (k : Knows s.rules other)
      → turn_fault s [] (walk_at given (empty name)) word ≡ kind.InvalidValue ∷ []
  known_waiting given name word other None waits is k = rw (is.dashes, is.long, k.by_long, waits.by_id) refl
  known_waiting given name word other (Some value) waits is k = rw (is.dashes, is.long, k.by_long, waits.by_id) refl

  -- no option is the value of a name that waits
  waiting_refused : (given : Options) (name : Text) → is_known name ≡ true → (word : Text) (words : List Text) (other : Text) (value : Option Text) → IsLongWord word other value
      → (known : Bool) → is_known other ≡ known → outcome (walk_at given (empty name)) (word ∷ words) ≡ None
  waiting_refused given name waits word words other value is false e =
      refused_turn (walk_at given (empty name)) word words kind.UnknownArgument [] (unknown_waiting given name word other value is e)
  waiting_refused given name waits word words other value is true e =
      refused_turn (walk_at given (empty name)) word words kind.InvalidValue [] (known_waiting given name word other value (has.known name waits) is (has.known other e))

  and_false : (b : Bool) → (b && false) ≡ false
  and_false true = refl
  and_false false = refl

  not_hyphen : (name : Text) (given : Options) (word : Text) → has_hyphen word ≡ true → (may_give name given && not (has_hyphen word)) ≡ false
  not_hyphen name given word hyphen = ap (λ b. may_give name given && not b) hyphen ∙ and_false (may_give name given)

  may_without_hyphen : (name : Text) (given : Options) (word : Text) → is_known name ≡ true → has_hyphen word ≡ false → (again : Bool) → has_name name given ≡ again
      → (may_give name given && not (has_hyphen word)) ≡ not again
  may_without_hyphen name given word known hyphen again e = rw (hyphen, known, e) (go again)
    where
      go : (b : Bool) → (not b && true) ≡ not b
      go true = refl
      go false = refl

  taken_reads : (given : Options) (name word : Text) (words : List Text) → is_known name ≡ true → has_hyphen word ≡ false → (again : Bool) → has_name name given ≡ again
      → read_options given (Some name) (word ∷ words) ≡ cond again None (read_options (given ++ (name, word) ∷ []) None words)
  taken_reads given name word words known hyphen again e =
      read_waiting given word name words
      ∙ ap (λ b. cond b (read_options (given ++ (name, word) ∷ []) None words) None) (may_without_hyphen name given word known hyphen again e) ∙ go again
    where
      go : (b : Bool) → cond (not b) (read_options (given ++ (name, word) ∷ []) None words) None ≡ cond b None (read_options (given ++ (name, word) ∷ []) None words)
      go true = refl
      go false = refl

  waiting_agrees : (words : List Text) → Agree words → (given : Options) (name : Text) → is_known name ≡ true → (word : Text)
      → IsPlainWord word ⊎ ((other : Text) × (value : Option Text) × IsLongWord word other value)
      → outcome (walk_at given (empty name)) (word ∷ words) ≡ option_map rows (read_options given (Some name) (word ∷ words))
  waiting_agrees words agree given name known word (inl is) =
      passed_turn (walk_at given (empty name)) (walk_at given (full name word)) word words
      (taken_turn given name word (has.known name known) is) (taken_walked given name word (has.known name known) is)
      ∙ agree given (full name word) known
      ∙ sym (ap (option_map rows) (taken_reads given name word words known is.hyphen _ refl))
  waiting_agrees words agree given name known word (inr (other, value, is)) =
      waiting_refused given name known word words other value is _ refl
      ∙ sym (ap (option_map rows) (read_waiting given word name words ∙ ap (λ b. cond b (read_options (given ++ (name, word) ∷ []) None words) None) (not_hyphen name given word is.hyphen)))

  -- ---- all the arguments

  ends_full : (given : Options) (name value : Text) → Knows s.rules name → (again : Bool) → has_name name given ≡ again
      → ends (held_at given (full name value)) ≡ option_map rows (cond again None (Some (given ++ (name, value) ∷ [])))
  ends_full given name value k true e = ap (λ faults. when_none faults (Some (settled s.rules (held_at given (full name value))).rows)) (full_blocked given name value k e)
  ends_full given name value k false e =
      let holds = full_holds given name value k e in
      ap (λ faults. when_none faults (Some (settled s.rules (held_at given (full name value))).rows)) holds.fault ∙ ap Some holds.rows_are

  ends_agree : Agree []
  unfolding outcome read_options
  ends_agree given fresh n = refl
  ends_agree given (full name value) n = ends_full given name value (has.known name n) _ refl
  ends_agree given (empty name) n = ap (λ faults. when_none faults (Some (settled s.rules (held_at given (empty name))).rows)) (empty_fault given name (has.known name n))

  -- clap's walk over arguments without a stray one reads what `read_options` reads
  pub walk_agrees : (words : List Text) → list_any is_stray words ≡ false → Agree words
  walk_agrees [] plain given stage n = ends_agree given stage n
  walk_agrees (word ∷ words) plain given fresh n =
      let parts = neither (is_stray word) (list_any is_stray words) plain in
      idle_agrees words (walk_agrees words parts.1) (held_at given fresh) given (fresh_holds given) word (word_shape word parts.0)
  walk_agrees (word ∷ words) plain given (full name value) n =
      let parts = neither (is_stray word) (list_any is_stray words) plain in
      full_agrees words (walk_agrees words parts.1) given name value n word (word_shape word parts.0) _ refl
  walk_agrees (word ∷ words) plain given (empty name) n =
      let parts = neither (is_stray word) (list_any is_stray words) plain in
      waiting_agrees words (walk_agrees words parts.1) given name n word (word_shape word parts.0)
