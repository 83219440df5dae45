-- A word is one verb at most, and words behind a verb one operation and one fault at most.
use Rattle.std.proofs.Common.{◌≡◌, ◌≢◌, ℕ, ◌<◌, get_or, arith, zero, suc, Bool, true, false, List, [], ◌∷◌, length, map, Option, Some, None, refl, sym, ap, ◌∙◌, inl, inr}
use Rattle.std.proofs.lemmas.Bool.{true≢false}
use Rattle.std.proofs.lemmas.Option.{same_Some, MatchOption-at_some}
use Rattle.std.specs.Prelude.{◌==◌, find, MatchOption, nat_lt}
use Rattle.std.specs.List.{AllZip}
use Rattle.std.specs.Str.{bytes_eq}
use Rattle.plain_forest.specs.declared.path.Path.{Path}
use Rattle.forest_ops.specs.declared.operation.Op.{Op}
use Rattle.forest_ops.specs.declared.operation.Op.TheVariants as op
use Rattle.script_text.specs.Arguments.{Argument, Kind, Said, SaysArgument}
use Rattle.script_text.specs.Arguments.Kind.{PathWord, NameWord, NumberWord, LengthWord, BytesWord, LockedWord}
use Rattle.script_text.specs.Faults.{IsFaultBehind, IsFirstFault}
use Rattle.script_text.specs.Operations.{arguments_of, verb_of}
use Rattle.script_text.specs.Verbs.{forms, is_supported, verb_word}
use Rattle.script_text.specs.declared.reading.LineFault.{LineFault}
use Rattle.script_text.specs.declared.reading.LineFault.TheVariants.{BadArgs}
use Rattle.script_text.specs.declared.verb.Verb.{Verb}
use Rattle.script_text.specs.declared.verb.Verb.TheVariants.{Mkdir, Mkfile, Write, Trunc, Read, Ls, Stat, Link, Unlink, Rmdir, Rename, Subvol, Snap, Delsub, Subs, Sync, Fsync, Sweep, Usage, Barrier}
use Rattle.script_text.proofs.OneWord.{one_argument}

abbrev pub all_verbs : List Verb
all_verbs = Mkdir ∷ Mkfile ∷ Write ∷ Trunc ∷ Read ∷ Ls ∷ Stat ∷ Link ∷ Unlink ∷ Rmdir ∷ Rename ∷ Subvol ∷ Snap ∷ Delsub ∷ Subs ∷ Sync ∷ Fsync ∷ Sweep ∷ Usage ∷ Barrier ∷ []

-- the verb of a word
abbrev verb_in : List ℕ → Option Verb
verb_in word = find (λ verb. bytes_eq (verb_word verb) word) all_verbs

verb_found : (verb : Verb) → verb_in (verb_word verb) ≡ Some verb
verb_found Mkdir = refl
verb_found Mkfile = refl
verb_found Write = refl
verb_found Trunc = refl
verb_found Read = refl
verb_found Ls = refl
verb_found Stat = refl
verb_found Link = refl
verb_found Unlink = refl
verb_found Rmdir = refl
verb_found Rename = refl
verb_found Subvol = refl
verb_found Snap = refl
verb_found Delsub = refl
verb_found Subs = refl
verb_found Sync = refl
verb_found Fsync = refl
verb_found Sweep = refl
verb_found Usage = refl
verb_found Barrier = refl

pub one_verb : (a b : Verb) → verb_word a ≡ verb_word b → a ≡ b
one_verb a b same = same_Some a b (sym (verb_found a) ∙ ap verb_in same ∙ verb_found b)

-- the kinds of the arguments
abbrev pub kinds_of : List Argument → List Kind
kinds_of arguments = map (λ (argument : Argument). argument.0) arguments

-- the form of a verb with so many words
abbrev pub form_of : Verb → ℕ → Option (List Kind)
form_of verb count = find (λ kinds. length kinds == count) (forms verb)

snap_form : (source copy : List ℕ) (locked : Bool) → form_of Snap (length (arguments_of (Some (op.Snap source copy locked)))) ≡ Some (kinds_of (arguments_of (Some (op.Snap source copy locked))))
snap_form source copy true = refl
snap_form source copy false = refl

-- what an operation needs is a form of its verb
pub has_form : (said : Option Op) → form_of (verb_of said) (length (arguments_of said)) ≡ Some (kinds_of (arguments_of said))
has_form None = refl
has_form (Some (op.Mkdir path)) = refl
has_form (Some (op.Mkfile path)) = refl
has_form (Some (op.Write path offset bytes)) = refl
has_form (Some (op.Trunc path size)) = refl
has_form (Some (op.Read path offset len)) = refl
has_form (Some (op.Ls path)) = refl
has_form (Some (op.Stat path)) = refl
has_form (Some (op.Link from to)) = refl
has_form (Some (op.Unlink path)) = refl
has_form (Some (op.Rmdir path)) = refl
has_form (Some (op.Rename from to)) = refl
has_form (Some (op.Subvol name)) = refl
has_form (Some (op.Snap source copy locked)) = snap_form source copy locked
has_form (Some (op.Delsub name)) = refl
has_form (Some op.Subs) = refl
has_form (Some op.Sync) = refl
has_form (Some (op.Fsync path)) = refl
has_form (Some (op.Sweep steps)) = refl
has_form (Some op.Usage) = refl

-- the argument at a place, and what it says
at_place : ℕ → List Argument → Argument
at_place place [] = (LockedWord, tt)
at_place zero (argument ∷ arguments) = argument
at_place (suc place) (argument ∷ arguments) = at_place place arguments

-- what an argument says, where it is of the kind
as_path : (kind : Kind) → Said kind → Path
as_path PathWord path = path
as_path _ said = record { sub = []; names = [] }

as_bytes : (kind : Kind) → Said kind → List ℕ
as_bytes NameWord name = name
as_bytes BytesWord bytes = bytes
as_bytes _ said = []

as_number : (kind : Kind) → Said kind → ℕ
as_number NumberWord number = number
as_number LengthWord number = number
as_number _ said = 0

abbrev path_at : ℕ → List Argument → Path
path_at place arguments = as_path (at_place place arguments).0 (at_place place arguments).1

abbrev bytes_at : ℕ → List Argument → List ℕ
bytes_at place arguments = as_bytes (at_place place arguments).0 (at_place place arguments).1

abbrev number_at : ℕ → List Argument → ℕ
number_at place arguments = as_number (at_place place arguments).0 (at_place place arguments).1

-- the operation of a verb with these arguments
abbrev op_with : Verb → List Argument → Option Op
op_with Mkdir arguments = Some (op.Mkdir (path_at 0 arguments))
op_with Mkfile arguments = Some (op.Mkfile (path_at 0 arguments))
op_with Write arguments = Some (op.Write (path_at 0 arguments) (number_at 1 arguments) (bytes_at 2 arguments))
op_with Trunc arguments = Some (op.Trunc (path_at 0 arguments) (number_at 1 arguments))
op_with Read arguments = Some (op.Read (path_at 0 arguments) (number_at 1 arguments) (number_at 2 arguments))
op_with Ls arguments = Some (op.Ls (path_at 0 arguments))
op_with Stat arguments = Some (op.Stat (path_at 0 arguments))
op_with Link arguments = Some (op.Link (path_at 0 arguments) (path_at 1 arguments))
op_with Unlink arguments = Some (op.Unlink (path_at 0 arguments))
op_with Rmdir arguments = Some (op.Rmdir (path_at 0 arguments))
op_with Rename arguments = Some (op.Rename (path_at 0 arguments) (path_at 1 arguments))
op_with Subvol arguments = Some (op.Subvol (bytes_at 0 arguments))
op_with Snap arguments = Some (op.Snap (bytes_at 0 arguments) (bytes_at 1 arguments) (nat_lt 2 (length arguments)))
op_with Delsub arguments = Some (op.Delsub (bytes_at 0 arguments))
op_with Subs arguments = Some op.Subs
op_with Sync arguments = Some op.Sync
op_with Fsync arguments = Some (op.Fsync (path_at 0 arguments))
op_with Sweep arguments = Some (op.Sweep (number_at 0 arguments))
op_with Usage arguments = Some op.Usage
op_with Barrier arguments = None

snap_with : (source copy : List ℕ) (locked : Bool) → op_with Snap (arguments_of (Some (op.Snap source copy locked))) ≡ Some (op.Snap source copy locked)
unfolding at_place as_bytes
snap_with source copy true = refl
snap_with source copy false = refl

said_with : (said : Option Op) → op_with (verb_of said) (arguments_of said) ≡ said
unfolding at_place as_path as_bytes as_number
said_with None = refl
said_with (Some (op.Mkdir path)) = refl
said_with (Some (op.Mkfile path)) = refl
said_with (Some (op.Write path offset bytes)) = refl
said_with (Some (op.Trunc path size)) = refl
said_with (Some (op.Read path offset len)) = refl
said_with (Some (op.Ls path)) = refl
said_with (Some (op.Stat path)) = refl
said_with (Some (op.Link from to)) = refl
said_with (Some (op.Unlink path)) = refl
said_with (Some (op.Rmdir path)) = refl
said_with (Some (op.Rename from to)) = refl
said_with (Some (op.Subvol name)) = refl
said_with (Some (op.Snap source copy locked)) = snap_with source copy locked
said_with (Some (op.Delsub name)) = refl
said_with (Some op.Subs) = refl
said_with (Some op.Sync) = refl
said_with (Some (op.Fsync path)) = refl
said_with (Some (op.Sweep steps)) = refl
said_with (Some op.Usage) = refl

-- as many words as arguments
as_many : (words : List (List ℕ)) (arguments : List Argument) → AllZip SaysArgument words arguments → length words ≡ length arguments
as_many [] [] are = refl
as_many [] (argument ∷ arguments) are = absurd are
as_many (word ∷ words) [] are = absurd are
as_many (word ∷ words) (argument ∷ arguments) are = ap suc (as_many words arguments are.1)

-- the form of words that are the arguments of an operation
pub form_behind : (words : List (List ℕ)) (said : Option Op) → AllZip SaysArgument words (arguments_of said) → form_of (verb_of said) (length words) ≡ Some (kinds_of (arguments_of said))
form_behind words said are = ap (form_of (verb_of said)) (as_many words (arguments_of said) are) ∙ has_form said

same_arguments : (words : List (List ℕ)) (a b : List Argument) → kinds_of a ≡ kinds_of b → AllZip SaysArgument words a → AllZip SaysArgument words b → a ≡ b
same_arguments [] [] [] kinds is also = refl
same_arguments [] [] (y ∷ b) kinds is also = absurd also
same_arguments [] (x ∷ a) b kinds is also = absurd is
same_arguments (word ∷ words) [] b kinds is also = absurd is
same_arguments (word ∷ words) (x ∷ a) [] kinds is also = absurd also
same_arguments (word ∷ words) (x ∷ a) (y ∷ b) kinds is also =
    let first : x.0 ≡ y.0 = cc in
    let later : kinds_of a ≡ kinds_of b = cc in
    ap (λ (argument : Argument). argument ∷ a) (one_argument word x y first is.0 also.0) ∙ ap (λ (arguments : List Argument). y ∷ arguments) (same_arguments words a b later is.1 also.1)

pub one_behind : (words : List (List ℕ)) (a b : Option Op) → verb_of a ≡ verb_of b → AllZip SaysArgument words (arguments_of a) → AllZip SaysArgument words (arguments_of b) → a ≡ b
one_behind words a b verb is also =
    let kinds = same_Some (kinds_of (arguments_of a)) (kinds_of (arguments_of b)) (sym (form_behind words a is) ∙ ap (λ v. form_of v (length words)) verb ∙ form_behind words b also) in
    let arguments = same_arguments words (arguments_of a) (arguments_of b) kinds is also in
    sym (said_with a) ∙ ap (λ v. op_with v (arguments_of a)) verb ∙ ap (op_with (verb_of b)) arguments ∙ said_with b

-- words that are arguments have no fault
no_first_fault : (words : List (List ℕ)) (arguments : List Argument) (fault : LineFault) → AllZip SaysArgument words arguments → IsFirstFault (kinds_of arguments) words fault → ⊥
no_first_fault [] [] fault are bad = absurd bad
no_first_fault [] (x ∷ arguments) fault are bad = absurd are
no_first_fault (word ∷ words) [] fault are bad = absurd are
no_first_fault (word ∷ words) (x ∷ arguments) fault are (inl nothing) = nothing.0 x.1 are.0
no_first_fault (word ∷ words) (x ∷ arguments) fault are (inr later) = no_first_fault words arguments fault are.1 later.1

pub no_fault_behind : (words : List (List ℕ)) (said : Option Op) (fault : LineFault) → AllZip SaysArgument words (arguments_of said) → IsFaultBehind (forms (verb_of said)) words fault → ⊥
no_fault_behind words said fault are bad =
    no_first_fault words (arguments_of said) fault are
    (MatchOption-at_some (fault ≡ BadArgs) (λ kinds. IsFirstFault kinds words fault) (kinds_of (arguments_of said)) (form_behind words said are) bad)

one_first_fault : (kinds : List Kind) (words : List (List ℕ)) (a b : LineFault) → IsFirstFault kinds words a → IsFirstFault kinds words b → a ≡ b
one_first_fault [] words a b is also = absurd is
one_first_fault (kind ∷ kinds) [] a b is also = absurd is
one_first_fault (kind ∷ kinds) (word ∷ words) a b (inl nothing) (inl none) = nothing.1 ∙ sym none.1
one_first_fault (kind ∷ kinds) (word ∷ words) a b (inl nothing) (inr later) = absurd (nothing.0 later.0.0 later.0.1)
one_first_fault (kind ∷ kinds) (word ∷ words) a b (inr later) (inl nothing) = absurd (nothing.0 later.0.0 later.0.1)
one_first_fault (kind ∷ kinds) (word ∷ words) a b (inr later) (inr after) = one_first_fault kinds words a b later.1 after.1

pub one_fault_behind : (forms : List (List Kind)) (words : List (List ℕ)) (a b : LineFault) → IsFaultBehind forms words a → IsFaultBehind forms words b → a ≡ b
one_fault_behind forms words a b = by (find (λ kinds. length kinds == length words) forms)
  where
    by : (form : Option (List Kind)) → MatchOption form (a ≡ BadArgs) (λ kinds. IsFirstFault kinds words a) → MatchOption form (b ≡ BadArgs) (λ kinds. IsFirstFault kinds words b) → a ≡ b
    by None is also = is ∙ sym also
    by (Some kinds) is also = one_first_fault kinds words a b is also

-- a word that is no verb of the table is none
pub none_of_all : (word : List ℕ) → ((k : ℕ) → k < 20 → word ≢ verb_word (get_or all_verbs k Mkdir)) → (verb : Verb) → word ≢ verb_word verb
none_of_all word none Mkdir = none 0 (omega arith)
none_of_all word none Mkfile = none 1 (omega arith)
none_of_all word none Write = none 2 (omega arith)
none_of_all word none Trunc = none 3 (omega arith)
none_of_all word none Read = none 4 (omega arith)
none_of_all word none Ls = none 5 (omega arith)
none_of_all word none Stat = none 6 (omega arith)
none_of_all word none Link = none 7 (omega arith)
none_of_all word none Unlink = none 8 (omega arith)
none_of_all word none Rmdir = none 9 (omega arith)
none_of_all word none Rename = none 10 (omega arith)
none_of_all word none Subvol = none 11 (omega arith)
none_of_all word none Snap = none 12 (omega arith)
none_of_all word none Delsub = none 13 (omega arith)
none_of_all word none Subs = none 14 (omega arith)
none_of_all word none Sync = none 15 (omega arith)
none_of_all word none Fsync = none 16 (omega arith)
none_of_all word none Sweep = none 17 (omega arith)
none_of_all word none Usage = none 18 (omega arith)
none_of_all word none Barrier = none 19 (omega arith)

-- a word is no supported verb, where its verb isn't one
pub no_supported : (word : List ℕ) (verb : Verb) → word ≡ verb_word verb → is_supported verb ≡ false → (other : Verb) → is_supported other ≡ true → word ≢ verb_word other
no_supported word verb is none other supported also = true≢false (sym supported ∙ ap is_supported (sym (one_verb verb other (sym is ∙ also))) ∙ none)
