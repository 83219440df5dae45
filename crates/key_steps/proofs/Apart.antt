-- Where keys are kept, the names of each value rise, so each name that shows under a slot is found by itself.
use Rattle.std.proofs.Common.{◌≡◌, ℕ, Bool, true, false, cond, Option, Some, None, List, [], ◌∷◌, refl, sym, ap, ◌∙◌, subst, map}
use Rattle.std.specs.Prelude.{All}
use Rattle.std.specs.List.{AllByRecursion}
use Rattle.std.specs.List.Sorted.{IsStrictlySortedBy}
use Rattle.std.specs.Ordering.{is_eq}
use Rattle.std.specs.declared.cmp.Ordering.TheVariants.{Less}
use Rattle.std.proofs.lemmas.Bool.{true≢false}
use Rattle.std.proofs.lemmas.Cmp.{nat_list_cmp_total, tied_itself}
use Rattle.std.proofs.lemmas.List.Elements.{All-cons, All-head, All-nil, All-tail, All-weaker}
use Rattle.std.proofs.lemmas.Map.Lookups.{exact_bytes}
use Rattle.key_meaning.specs.Forest.{link_named, links_of}
use Rattle.key_meaning.specs.ForestLaws.{links_shown}
use Rattle.key_meaning.specs.NumberLaws.{first_has}
use Rattle.key_meaning.specs.Tidy.{IsKeyOf}
use Rattle.key_meaning.specs.TableLaws.{same_key}
use Rattle.key_meaning.specs.Visible.{first_value, snaps_of}
use Rattle.key_steps.specs.Kept.{IsKept}
use Rattle.key_steps.specs.Shown.{AreNamesApart, shown_in}
use Rattle.snap_tree.specs.Snaps.{chain_of}
use Rattle.vol_types.specs.KeyMaps.{KeyMap}
use Rattle.vol_types.specs.Ranges.{IsValue, name_cmp}
use Rattle.vol_types.specs.Rising.{sorted-from_Rise}
use Rattle.vol_types.specs.declared.layout.Layout.{Layout}
use Rattle.vol_types.specs.declared.pointers.Place.{Place}
use Rattle.vol_types.specs.declared.positions.Btree.TheVariants.{Dirents}
use Rattle.vol_types.specs.declared.positions.Pos.{Pos}
use Rattle.vol_types.specs.declared.values.Link.{Link}
use Rattle.vol_types.specs.declared.values.Value.{Value}
use Rattle.vol_types.specs.declared.values.Value.TheVariants as values

-- each of these names is found among them by itself
abbrev AreApart : List Link → Type 0
AreApart links = All (λ (link : Link). link_named link.name links ≡ Some link) links

-- a name that is above another one isn't equal to it
not_at : (low high : List ℕ) → name_cmp low high ≡ Less → is_eq (name_cmp high low) ≡ false
not_at low high less = by (is_eq (name_cmp high low)) refl
  where
    by : (b : Bool) → is_eq (name_cmp high low) ≡ b → b ≡ false
    by true at = absurd (true≢false (sym (ap is_eq (tied_itself nat_list_cmp_total high)) ∙ ap (λ (n : List ℕ). is_eq (name_cmp n high)) (same_key exact_bytes high low at) ∙ ap is_eq less))
    by false at = refl

-- names that rise are apart
rising_apart : (links : List Link) → IsStrictlySortedBy name_cmp (map (λ (link : Link). link.name) links) → AreApart links
unfolding IsStrictlySortedBy
rising_apart [] rise = All-nil (λ (link : Link). link_named link.name [] ≡ Some link)
rising_apart (x ∷ xs) rise = All-cons (λ (link : Link). link_named link.name (x ∷ xs) ≡ Some link) x xs
    (ap (λ b. cond b (Some x) (link_named x.name xs)) (ap is_eq (tied_itself nat_list_cmp_total x.name)))
    (later xs rise.0 (rising_apart xs rise.1))
  where
    later : (ys : List Link) → AllByRecursion (λ n. name_cmp x.name n ≡ Less) (map (λ (link : Link). link.name) ys) → All (λ (link : Link). link_named link.name xs ≡ Some link) ys → All (λ (link : Link). link_named link.name (x ∷ xs) ≡ Some link) ys
    later [] above found = All-nil (λ (link : Link). link_named link.name (x ∷ xs) ≡ Some link)
    later (y ∷ ys) above found = All-cons (λ (link : Link). link_named link.name (x ∷ xs) ≡ Some link) y ys
        (ap (λ b. cond b (Some x) (link_named y.name xs)) (not_at x.name y.name above.0) ∙ All-head (λ (link : Link). link_named link.name xs ≡ Some link) y ys found)
        (later ys above.1 (All-tail (λ (link : Link). link_named link.name xs ≡ Some link) y ys found))

-- the names of a value in range are apart
value_apart : (value : Value) → IsValue value → AreApart (links_of (Some value))
value_apart (values.Names links) fits = rising_apart links (sorted-from_Rise name_cmp nat_list_cmp_total (map (λ (link : Link). link.name) links) fits.rise)
value_apart other fits = All-nil (λ (link : Link). link_named link.name [] ≡ Some link)

-- The names that kept keys show under each slot are apart.
pub kept_apart : (keys : KeyMap) (nodes : List Place) (layout : Layout) → IsKept keys nodes layout → (id : ℕ) → AreNamesApart (shown_in keys id)
kept_apart keys nodes layout kept id = record { each = λ directory slot. subst AreApart (sym (links_shown (first_value keys Dirents directory slot (chain_of (snaps_of keys) id)))) (by directory slot (first_value keys Dirents directory slot (chain_of (snaps_of keys) id)) refl) }
  where
    by : (directory slot : ℕ) (o : Option Value) → first_value keys Dirents directory slot (chain_of (snaps_of keys) id) ≡ o → AreApart (links_of o)
    by directory slot None is = All-nil (λ (link : Link). link_named link.name [] ≡ Some link)
    by directory slot (Some value) is = first_has keys (λ v. AreApart (links_of (Some v))) Dirents directory slot value
        (All-weaker (IsKeyOf keys Dirents) (λ (entry : Pos × Value). AreApart (links_of (Some entry.1))) (λ (entry : Pos × Value) (key : IsKeyOf keys Dirents entry). value_apart entry.1 key.in_range) keys.dirents (kept.drawn.each Dirents))
        (chain_of (snaps_of keys) id) is
