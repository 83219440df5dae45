-- The changes of a range are made in a node one after the other: those that are left, over what it is now, give the whole.
use Rattle.std.proofs.Common.{◌≡◌, ℕ, ◌+◌, ◌<◌, ◌≤◌, Bool, true, false, cond, Option, List, [], ◌∷◌, ◌++◌, length, drop, get_or, refl, ap, sym, ◌∙◌, subst, All}
use Rattle.std.specs.Map.{keys_of, values_of}
use Rattle.std.proofs.lemmas.List.Elements.{All-cons, All-head, All-nil, All-tail}
use Rattle.image_view.specs.Found.{updates_of}
use Rattle.journal_ring.specs.declared.found.FoundEntry.{FoundEntry}
use Rattle.node_mem.specs.Nodes.{Node}
use Rattle.vol_types.specs.Maps.{put_at}
use Rattle.vol_types.specs.PositionLaws.{is_within-iff}
use Rattle.vol_types.specs.Positions.{IsWithin, is_within, pos_cmp}
use Rattle.vol_types.specs.Ranges.{IsKeyValue}
use Rattle.vol_types.specs.declared.positions.Pos.{Pos}
use Rattle.vol_types.specs.declared.values.Value.{Value}
use Rattle.image_reader.specs.Changes.{Changes, all_noted, changes_within, noted, with_changes}
use Rattle.image_reader.proofs.Steps.{drop_more, drop_none}
use Rattle.vol_types.specs.declared.keys.Update.{Update}
use Rattle.vol_types.specs.declared.positions.Btree.{Btree}

-- The changes that are left, made in the node as it is now, make what all of them make of the first one.
pub record IsMaking (first : Node) (changes : Changes) (now : Node) (left : Changes) : Type 0 where
  pub least : now.least ≡ first.least
  pub greatest : now.greatest ≡ first.greatest
  pub entries : with_changes left now.entries ≡ with_changes (changes_within first.least first.greatest changes) first.entries
  pub covered : All (IsWithin first.least first.greatest) (keys_of left)
  pub in_range : All IsKeyValue (values_of left)

kept_covered : (least greatest : Pos) (changes : Changes) → All (IsWithin least greatest) (keys_of (changes_within least greatest changes))
kept_covered least greatest [] = All-nil (IsWithin least greatest)
kept_covered least greatest (c ∷ cs) = by (is_within least greatest c.0) refl (kept_covered least greatest cs)
  where
    by : (b : Bool) → is_within least greatest c.0 ≡ b → All (IsWithin least greatest) (keys_of (changes_within least greatest cs)) → All (IsWithin least greatest) (keys_of (cond b (c ∷ changes_within least greatest cs) (changes_within least greatest cs)))
    by true is later = All-cons (IsWithin least greatest) c.0 (keys_of (changes_within least greatest cs)) ((is_within-iff least greatest c.0).0 is) later
    by false is later = later

kept_in_range : (least greatest : Pos) (changes : Changes) → All IsKeyValue (values_of changes) → All IsKeyValue (values_of (changes_within least greatest changes))
kept_in_range least greatest [] all = All-nil IsKeyValue
kept_in_range least greatest (c ∷ cs) all = by (is_within least greatest c.0) (kept_in_range least greatest cs (All-tail IsKeyValue c.1 (values_of cs) all))
  where
    by : (b : Bool) → All IsKeyValue (values_of (changes_within least greatest cs)) → All IsKeyValue (values_of (cond b (c ∷ changes_within least greatest cs) (changes_within least greatest cs)))
    by true later = All-cons IsKeyValue c.1 (values_of (changes_within least greatest cs)) (All-head IsKeyValue c.1 (values_of cs) all) later
    by false later = later

-- None is made yet.
pub making_none : (first : Node) (changes left : Changes) → All IsKeyValue (values_of changes) → left ≡ changes_within first.least first.greatest changes → IsMaking first changes first left
making_none first changes left all is = record {
  least = refl;
  greatest = refl;
  entries = ap (λ cs. with_changes cs first.entries) is;
  covered = subst (λ (cs : Changes). All (IsWithin first.least first.greatest) (keys_of cs)) (sym is) (kept_covered first.least first.greatest changes);
  in_range = subst (λ (cs : Changes). All IsKeyValue (values_of cs)) (sym is) (kept_in_range first.least first.greatest changes all);
}

module _ (first : Node) (changes : Changes) (now : Node) (left : Changes) (making : IsMaking first changes now left) (pos : Pos) (value : Option Value) (later : Changes) (next : left ≡ (pos, value) ∷ later) where
  -- The next change is in the range,
  pub next_covered : IsWithin now.least now.greatest pos
  next_covered =
      let here : IsWithin first.least first.greatest pos = All-head (IsWithin first.least first.greatest) pos (keys_of later) (subst (λ (cs : Changes). All (IsWithin first.least first.greatest) (keys_of cs)) next making.covered) in
      subst (λ g. IsWithin now.least g pos) (sym making.greatest) (subst (λ l. IsWithin l first.greatest pos) (sym making.least) here)

  pub next_in_range : IsKeyValue value
  next_in_range = All-head IsKeyValue value (values_of later) (subst (λ (cs : Changes). All IsKeyValue (values_of cs)) next making.in_range)

  -- and once it is made, one fewer is left.
  pub making_more : (made : Node) → made ≡ record { least = now.least; greatest = now.greatest; entries = put_at pos_cmp pos value now.entries } → IsMaking first changes made later
  making_more made is = record {
    least = ap (λ (n : Node). n.least) is ∙ making.least;
    greatest = ap (λ (n : Node). n.greatest) is ∙ making.greatest;
    entries = ap (λ (n : Node). with_changes later n.entries) is ∙ ap (λ cs. with_changes cs now.entries) (sym next) ∙ making.entries;
    covered = All-tail (IsWithin first.least first.greatest) pos (keys_of later) (subst (λ (cs : Changes). All (IsWithin first.least first.greatest) (keys_of cs)) next making.covered);
    in_range = All-tail IsKeyValue value (values_of later) (subst (λ (cs : Changes). All IsKeyValue (values_of cs)) next making.in_range);
  }

-- All are made.
pub making_all : (first : Node) (changes : Changes) (now : Node) (left : Changes) → IsMaking first changes now left → left ≡ []
    → now ≡ record { least = first.least; greatest = first.greatest; entries = with_changes (changes_within first.least first.greatest changes) first.entries }
making_all first changes now left making none =
    let entries : now.entries ≡ with_changes (changes_within first.least first.greatest changes) first.entries = ap (λ cs. with_changes cs now.entries) (sym none) ∙ making.entries in
    λ i. record { least = making.least i; greatest = making.greatest i; entries = entries i }

-- Updates one behind another are noted one after the other.
pub noted-append : (btree : Btree) (level : ℕ) (one other : List Update) (changes : Changes) → all_noted btree level (one ++ other) changes ≡ all_noted btree level other (all_noted btree level one changes)
noted-append btree level [] other changes = refl
noted-append btree level (update ∷ one) other changes = noted-append btree level one other (noted btree level update changes)

module _ (btree : Btree) (level : ℕ) where
  -- One update more is noted.
  pub noted_step : (updates : List Update) (i : ℕ) (update : Update) (before after whole : Changes) → i < length updates → update ≡ get_or updates i update → after ≡ noted btree level update before
      → all_noted btree level (drop i updates) before ≡ whole → all_noted btree level (drop (i + 1) updates) after ≡ whole
  noted_step updates i update before after whole lt at is so_far =
      ap (all_noted btree level (drop (i + 1) updates)) is ∙ ap (λ (us : List Update). all_noted btree level us before) (sym (drop_more updates i update lt at)) ∙ so_far

  pub noted_end : (updates : List Update) (i : ℕ) (now whole : Changes) → length updates ≤ i → all_noted btree level (drop i updates) now ≡ whole → now ≡ whole
  noted_end updates i now whole le so_far = ap (λ (us : List Update). all_noted btree level us now) (sym (drop_none updates i le)) ∙ so_far

  -- Those of one entry more are.
  pub entry_step : (entries : List FoundEntry) (i : ℕ) (found : FoundEntry) (before after whole : Changes) → i < length entries → found ≡ get_or entries i found → after ≡ all_noted btree level found.entry.updates before
      → all_noted btree level (updates_of (drop i entries)) before ≡ whole → all_noted btree level (updates_of (drop (i + 1) entries)) after ≡ whole
  entry_step entries i found before after whole lt at is so_far =
      ap (all_noted btree level (updates_of (drop (i + 1) entries))) is
      ∙ sym (noted-append btree level found.entry.updates (updates_of (drop (i + 1) entries)) before)
      ∙ ap (λ (es : List FoundEntry). all_noted btree level (updates_of es) before) (sym (drop_more entries i found lt at))
      ∙ so_far

  pub entry_end : (entries : List FoundEntry) (i : ℕ) (now whole : Changes) → length entries ≤ i → all_noted btree level (updates_of (drop i entries)) now ≡ whole → now ≡ whole
  entry_end entries i now whole le so_far = ap (λ (es : List FoundEntry). all_noted btree level (updates_of es) now) (sym (drop_none entries i le)) ∙ so_far
