-- What holds of the nodes of a level after one was put.
use Rattle.std.proofs.Common.{◌≡◌, ℕ, suc, Bool, true, false, cond, Option, Some, None, [], ◌∷◌, length, refl, sym, ap, ◌∙◌, subst, arith}
use Rattle.std.specs.Prelude.{All, IsSome, is_some}
use Rattle.std.specs.BTreeMap.{is_at}
use Rattle.std.specs.List.{filter}
use Rattle.std.specs.Map.{keys_of, values_of}
use Rattle.std.specs.Ordering.{is_eq, match_ordering}
use Rattle.std.specs.declared.cmp.Ordering.{Ordering}
use Rattle.std.specs.declared.cmp.Ordering.TheVariants.{Less, Equal, Greater}
use Rattle.std.proofs.lemmas.Bool.{true≢false}
use Rattle.std.proofs.lemmas.Cmp.{tied_itself}
use Rattle.std.proofs.lemmas.List.Elements.{All-nil, All-cons, All-head, All-tail}
use Rattle.std.proofs.lemmas.Map.{lookup-none}
use Rattle.std.proofs.lemmas.Map.Entries.{none_below_head}
use Rattle.std.proofs.lemmas.Map.Keys.{sorted_tail}
use Rattle.std.proofs.lemmas.Option.{same_Some}
use Rattle.vol_types.specs.MapLaws.{IsMap-with_value, value_at-with_value}
use Rattle.vol_types.specs.Maps.{IsMap, value_at, with_value}
use Rattle.vol_types.specs.PositionLaws.{pos_total, pos_exact}
use Rattle.vol_types.specs.Positions.{pos_cmp, IsBefore}
use Rattle.vol_types.specs.Widths.{PosFits}
use Rattle.vol_types.specs.declared.pointers.NodePtr.{NodePtr}
use Rattle.vol_types.specs.declared.positions.Pos.{Pos}
use Rattle.tree_nodes.specs.Levels.{Level, EndsAt, IsLevel, IsNodeOf, IsRow}

-- what holds of each key and of the one that is put holds of all then
keys-with_value : (P : Pos → Type 0) (at : Pos) (node : NodePtr) (nodes : Level) → P at → All P (keys_of nodes) → All P (keys_of (with_value pos_cmp at node nodes))
keys-with_value P at node [] put all = All-cons P at [] put (All-nil P)
keys-with_value P at node (e ∷ es) put all = by (pos_cmp at e.0) (keys-with_value P at node es put (All-tail P e.0 (keys_of es) all))
  where
    by : (r : Ordering) → All P (keys_of (with_value pos_cmp at node es)) → All P (keys_of (match_ordering r ((at, node) ∷ e ∷ es) ((e.0, node) ∷ es) (e ∷ with_value pos_cmp at node es)))
    by Less later = All-cons P at (keys_of (e ∷ es)) put all
    by Equal later = all
    by Greater later = All-cons P e.0 (keys_of (with_value pos_cmp at node es)) (All-head P e.0 (keys_of es) all) later

-- and the same of values
values-with_value : (P : NodePtr → Type 0) (at : Pos) (node : NodePtr) (nodes : Level) → P node → All P (values_of nodes) → All P (values_of (with_value pos_cmp at node nodes))
values-with_value P at node [] put all = All-cons P node [] put (All-nil P)
values-with_value P at node (e ∷ es) put all = by (pos_cmp at e.0) (values-with_value P at node es put (All-tail P e.1 (values_of es) all))
  where
    by : (r : Ordering) → All P (values_of (with_value pos_cmp at node es)) → All P (values_of (match_ordering r ((at, node) ∷ e ∷ es) ((e.0, node) ∷ es) (e ∷ with_value pos_cmp at node es)))
    by Less later = All-cons P node (values_of (e ∷ es)) put all
    by Equal later = All-cons P node (values_of es) put (All-tail P e.1 (values_of es) all)
    by Greater later = All-cons P e.1 (values_of (with_value pos_cmp at node es)) (All-head P e.1 (values_of es) all) later

-- The nodes are in order still.
pub row-with_value : (at : Pos) (node : NodePtr) (nodes after : Level) → IsRow nodes → PosFits at → after ≡ with_value pos_cmp at node nodes → IsRow after
row-with_value at node nodes after row fits is = subst IsRow (sym is) (record {
  rises = IsMap-with_value pos_total at node nodes row.rises;
  fits = keys-with_value PosFits at node nodes fits row.fits;
})

here_or_there : (b : Bool) (node : NodePtr) (o : Option NodePtr) → IsSome o → IsSome (cond b (Some node) o)
here_or_there true node o some = refl
here_or_there false node o some = some

-- A node that ends at a position is still there.
pub ends-stay : (at q : Pos) (node : NodePtr) (nodes : Level) → EndsAt nodes q → EndsAt (with_value pos_cmp at node nodes) q
ends-stay at q node nodes ends = subst IsSome (sym (value_at-with_value pos_total at node q nodes)) (here_or_there (is_at (pos_cmp at) q) node (value_at pos_cmp q nodes) ends)

-- Positions of an equal order are one.
pub same_at : (p q : Pos) → is_at (pos_cmp p) q ≡ true → p ≡ q
same_at p q is = pos_exact p q (by (pos_cmp p q) is)
  where
    by : (r : Ordering) → is_eq r ≡ true → r ≡ Equal
    by Less it = absurd (true≢false (sym it))
    by Equal it = refl
    by Greater it = absurd (true≢false (sym it))

-- What holds of the position that is put, and of each at which a node ended, holds of each at which one ends then.
pub ends-only : (P : Pos → Type 0) (at q : Pos) (node : NodePtr) (nodes : Level) → P at → (EndsAt nodes q → P q) → EndsAt (with_value pos_cmp at node nodes) q → P q
ends-only P at q node nodes put others ends = by (is_at (pos_cmp at) q) refl (subst IsSome (value_at-with_value pos_total at node q nodes) ends)
  where
    by : (b : Bool) → is_at (pos_cmp at) q ≡ b → IsSome (cond b (Some node) (value_at pos_cmp q nodes)) → P q
    by true is some = subst P (same_at at q is) put
    by false is some = others some

-- What holds of each position of a level holds where a node ends.
pub at_end : (P : Pos → Type 0) (nodes : Level) (at : Pos) → All P (keys_of nodes) → EndsAt nodes at → P at
at_end P [] at all ends = absurd (true≢false (sym ends))
at_end P (e ∷ es) at all ends = by (is_at (pos_cmp at) e.0) refl ends (at_end P es at (All-tail P e.0 (keys_of es) all))
  where
    by : (b : Bool) → is_at (pos_cmp at) e.0 ≡ b → IsSome (cond b (Some e.1) (value_at pos_cmp at es)) → (EndsAt es at → P at) → P at
    by true is some later = subst P (sym (same_at at e.0 is)) (All-head P e.0 (keys_of es) all)
    by false is some later = later some

-- What holds where a node ends holds of each position of the level.
pub each_end : (P : Pos → Type 0) (nodes : Level) → ((at : Pos) → EndsAt nodes at → P at) → All P (keys_of nodes)
each_end P [] so = All-nil P
each_end P (e ∷ es) so =
    All-cons P e.0 (keys_of es) (so e.0 (ap (λ r. is_some (cond (is_eq r) (Some e.1) (value_at pos_cmp e.0 es))) (tied_itself pos_total e.0)))
    (each_end P es (λ at ends. so at (here_or_there (is_at (pos_cmp at) e.0) e.1 (value_at pos_cmp at es) ends)))

-- What is put before a position changes nothing there.
pub value-later : (at q : Pos) (node : NodePtr) (nodes : Level) → IsBefore at q → value_at pos_cmp q (with_value pos_cmp at node nodes) ≡ value_at pos_cmp q nodes
value-later at q node nodes before = value_at-with_value pos_total at node q nodes ∙ ap (λ r. cond (is_eq r) (Some node) (value_at pos_cmp q nodes)) before

-- A level is one still, where a pointer of it is put.
pub level-with_value : (level : ℕ) (at : Pos) (node : NodePtr) (nodes : Level) → IsLevel level nodes → PosFits at → IsNodeOf level node → IsLevel level (with_value pos_cmp at node nodes)
level-with_value level at node nodes is fits put = record {
  row = row-with_value at node nodes (with_value pos_cmp at node nodes) is.row fits refl;
  ends = ends-stay at _ node nodes is.ends;
  each = values-with_value (IsNodeOf level) at node nodes put is.each;
}

-- Where a node ends, another in its place leaves the number of nodes.
pub length-replaced : (at : Pos) (node : NodePtr) (nodes : Level) → IsMap pos_cmp nodes → EndsAt nodes at → length (with_value pos_cmp at node nodes) ≡ length nodes
length-replaced at node [] rises ends = absurd (true≢false (sym ends))
length-replaced at node (e ∷ es) rises ends = by (pos_cmp at e.0) refl (length-replaced at node es (sorted_tail pos_cmp e.0 (keys_of es) rises))
  where
    by : (r : Ordering) → pos_cmp at e.0 ≡ r → (EndsAt es at → length (with_value pos_cmp at node es) ≡ length es) → length (match_ordering r ((at, node) ∷ e ∷ es) ((e.0, node) ∷ es) (e ∷ with_value pos_cmp at node es)) ≡ length (e ∷ es)
    by Less is later = absurd (true≢false (sym ends ∙ ap is_some (lookup-none (is_at (pos_cmp at)) (e ∷ es) (none_below_head pos_total at e es rises is))))
    by Equal is later = refl
    by Greater is later = ap suc (later (subst (λ r. IsSome (cond (is_eq r) (Some e.1) (value_at pos_cmp at es))) is ends))

-- A level of one node has just the one that is found.
pub single : (at : Pos) (node : NodePtr) (nodes : Level) → length nodes ≡ 1 → value_at pos_cmp at nodes ≡ Some node → nodes ≡ (at, node) ∷ []
single at node [] one is = absurd (omega (arith, one))
single at node (e ∷ d ∷ es) one is = absurd (omega (arith, one))
single at node (e ∷ []) one is = by (is_at (pos_cmp at) e.0) refl is
  where
    by : (b : Bool) → is_at (pos_cmp at) e.0 ≡ b → cond b (Some e.1) None ≡ Some node → e ∷ [] ≡ (at, node) ∷ []
    by true here found = λ i. (sym (same_at at e.0 here) i, same_Some e.1 node found i) ∷ []
    by false here found = absurd (true≢false (sym (ap is_some found)))

-- A node whose position passes a test is found among those that pass it.
pub kept-ends : (p : Pos → Bool) (at : Pos) (nodes : Level) → p at ≡ true → EndsAt nodes at → EndsAt (filter (λ e. p e.0) nodes) at
kept-ends p at [] passes ends = ends
kept-ends p at (e ∷ es) passes ends = by (is_at (pos_cmp at) e.0) refl ends (kept-ends p at es passes)
  where
    longer : (b : Bool) → EndsAt (filter (λ e. p e.0) es) at → EndsAt (cond b (e ∷ filter (λ e. p e.0) es) (filter (λ e. p e.0) es)) at
    longer true kept = here_or_there (is_at (pos_cmp at) e.0) e.1 (value_at pos_cmp at (filter (λ e. p e.0) es)) kept
    longer false kept = kept

    by : (b : Bool) → is_at (pos_cmp at) e.0 ≡ b → IsSome (cond b (Some e.1) (value_at pos_cmp at es)) → (EndsAt es at → EndsAt (filter (λ e. p e.0) es) at) → EndsAt (filter (λ e. p e.0) (e ∷ es)) at
    by true is some later =
        ap (λ b. is_some (value_at pos_cmp at (cond b (e ∷ filter (λ e. p e.0) es) (filter (λ e. p e.0) es)))) (ap p (sym (same_at at e.0 is)) ∙ passes)
        ∙ ap (λ b. is_some (cond b (Some e.1) (value_at pos_cmp at (filter (λ e. p e.0) es)))) is
    by false is some later = longer (p e.0) (later some)
