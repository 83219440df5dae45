-- The nodes of a level that was looked up among the levels.
use Rattle.std.proofs.Common.{◌≡◌, ℕ, ◌<◌, ◌+◌, ◌≤◌, ◌-◌, get_or, Option, Some, None, [], refl, sym, ap, ◌∙◌, subst, arith}
use Rattle.std.specs.Prelude.{IsSome, IfSome, OnOk, OnErr, Result, Ok, Err, is_some, length, option_map, slice_get, unwrap_or}
use Rattle.std.proofs.lemmas.Bool.{true≢false}
use Rattle.std.proofs.lemmas.Option.{unwrap_or-slice_get, slice_get-get_or}
use Rattle.vol_types.specs.Widths.{PosFits}
use Rattle.vol_types.specs.declared.pointers.NodePtr.{NodePtr}
use Rattle.vol_types.specs.declared.positions.Pos.{Pos}
use Rattle.tree_nodes.specs.Levels.{Level, Levels, Covers, EndsAt, IsNested, IsRow, IsTree, level_of, node_at}
use Rattle.tree_nodes.specs.CoverLaws.{node_at-covers}

-- a level that is there
pub found : (levels : Levels) (level : ℕ) (nodes : Level) → slice_get levels level ≡ Some nodes → level_of levels level ≡ nodes
found levels level nodes is = sym (unwrap_or-slice_get levels level []) ∙ ap (λ o. unwrap_or o []) is

-- a level that isn't
pub missing : (levels : Levels) (level : ℕ) → slice_get levels level ≡ None → level_of levels level ≡ []
missing levels level is = sym (unwrap_or-slice_get levels level []) ∙ ap (λ o. unwrap_or o []) is

-- a level is missing exactly where there are fewer
pub none_past : (levels : Levels) (level : ℕ) → slice_get levels level ≡ None → level < length levels → ⊥
none_past levels level none lt = true≢false (sym (ap is_some (sym none ∙ slice_get-get_or levels level [] lt)))

-- what is shown as something is something
pub some_shown : {A X : Type 0} (shows : A → X) (o : Option A) (shown : Option X) → option_map shows o ≡ shown → IsSome shown → IsSome o
some_shown shows None shown is some = absurd (true≢false (sym some ∙ ap is_some (sym is)))
some_shown shows (Some a) shown is some = refl

-- a result that leaves the levels of a btree in both cases
pub tree_either : {T E : Type 0} (result : Result T E) (old after new : Levels) → OnOk result (new ≡ after) → OnErr result (new ≡ old) → IsTree old → IsTree after → IsTree new
tree_either (Ok t) old after new ok err before then = subst IsTree (sym ok) then
tree_either (Err e) old after new ok err before then = subst IsTree (sym err) before

-- a level that is read at its place
pub read : (levels : Levels) (level : ℕ) (nodes : Level) → level < length levels → nodes ≡ get_or levels level nodes → level_of levels level ≡ nodes
read levels level nodes lt is = found levels level nodes (slice_get-get_or levels level nodes lt ∙ ap Some (sym is))

-- a level that is read with the one below is nested in it, where all are
pub read_nested : (levels : Levels) (level : ℕ) (above below : Level) → 1 ≤ level → level < length levels → above ≡ get_or levels level above → below ≡ get_or levels (level - 1) below
    → ((k : ℕ) → IsNested (level_of levels (k + 1)) (level_of levels k)) → IsNested above below
read_nested levels level above below some lt is_above is_below nested at ends =
    let up : level - 1 + 1 ≡ level = omega (arith, some) in
    subst (λ n. EndsAt n at) (read levels (level - 1) below (omega (arith, lt)) is_below)
    (nested (level - 1) at (subst (λ n. EndsAt n at) (sym (ap (level_of levels) up ∙ read levels level above lt is_above)) ends))

-- what is shown as the node of a position covers it
pub shown_covers : {A : Type 0} (shows : A → Pos × NodePtr) (o : Option A) (nodes : Level) (pos : Pos) → IsRow nodes → PosFits pos → option_map shows o ≡ node_at pos nodes → IfSome o (λ a. Covers nodes (shows a).0 pos)
shown_covers shows None nodes pos row fits is = tt
shown_covers shows (Some a) nodes pos row fits is = node_at-covers pos nodes (shows a) row fits (sym is)
