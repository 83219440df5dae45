-- What a line that was given, or not, amounts to at the end of a run.
use Rattle.std.proofs.Common.{◌≡◌, ◌++◌, Result, Ok, Err, List, ℕ, ap, ◌∙◌, append_assoc, subst}
use Rattle.std.specs.Prelude.{OnOk, OnErr}
use Rattle.text_io.specs.Streams.{GivesPrefix}
use Rattle.shell.proofs.Printing.{whole_is_prefix}

-- a prefix of a line was given, all of it or not
pub given_prefix : {T E : Type 0} (line held new : List ℕ) (result : Result T E) → OnOk result (new ≡ held ++ line) → OnErr result (GivesPrefix line held new) → GivesPrefix line held new
given_prefix line held new (Ok x) ok err = whole_is_prefix line held new ok
given_prefix line held new (Err e) ok err = err

-- what was given of one line was given of the same line
pub given_as : {T E : Type 0} (result : Result T E) (held new one other : List ℕ) → one ≡ other → OnOk result (new ≡ held ++ one) → OnOk result (new ≡ held ++ other)
given_as result held new one other same given = subst (λ list. OnOk result (new ≡ held ++ list)) same given

pub prefix_as : {T E : Type 0} (result : Result T E) (held new one other : List ℕ) → one ≡ other → OnErr result (GivesPrefix one held new) → OnErr result (GivesPrefix other held new)
prefix_as result held new one other same given = subst (λ list. OnErr result (GivesPrefix list held new)) same given

-- one text was given, and then another
pub given_then : (held first second written mid new : List ℕ) → mid ≡ held ++ first → written ≡ second → new ≡ mid ++ written → new ≡ held ++ (first ++ second)
given_then held first second written mid new whole same more = more ∙ ap (λ list. list ++ written) whole ∙ ap (λ list. (held ++ first) ++ list) same ∙ append_assoc held first second
