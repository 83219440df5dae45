-- What all entries have, what shows has: the names under a slot, and the numbers of inodes.
use Rattle.std.proofs.Common.{◌≡◌, ℕ, Bool, true, false, cond, Option, Some, None, List, [], ◌∷◌, refl, sym, ap, ◌∙◌, subst, ⊎_elim}
use Rattle.std.specs.Prelude.{◌⊎◌, All, option_map}
use Rattle.std.specs.BTreeMap.{is_at}
use Rattle.std.specs.Option.{option_or}
use Rattle.std.proofs.lemmas.List.Elements.{All-head, All-nil, All-tail, All-weaker}
use Rattle.std.proofs.lemmas.Option.{same_Some, none-some as none_some}
use Rattle.key_meaning.specs.Forest.{inode_of, kind_in, links_in, links_of}
use Rattle.key_meaning.specs.ForestLaws.{links_shown}
use Rattle.key_meaning.specs.SoundLaws.{IsIn, all_in}
use Rattle.key_meaning.specs.TableLaws.{same_key}
use Rattle.key_meaning.specs.Tidy.{AreKeysDrawn, AreNamesGood, IsDrawn, IsKeyOf}
use Rattle.key_meaning.specs.Visible.{first_value, own_value, shown, snaps_of}
use Rattle.key_steps.specs.Steps.{IsNewLink, MayStandUnder}
use Rattle.plain_forest.specs.Names.{is_good_name}
use Rattle.snap_tree.specs.Snaps.{chain_of}
use Rattle.vol_types.specs.KeyMaps.{Entries, KeyMap, entries_of}
use Rattle.vol_types.specs.Maps.{value_at}
use Rattle.vol_types.specs.PositionLaws.{pos_exact}
use Rattle.vol_types.specs.Positions.{pos_cmp}
use Rattle.vol_types.specs.declared.positions.Btree.{Btree}
use Rattle.vol_types.specs.declared.positions.Btree.TheVariants.{Dirents, Inodes}
use Rattle.vol_types.specs.declared.positions.Pos.{Pos}
use Rattle.vol_types.specs.declared.values.FileKind.{FileKind}
use Rattle.vol_types.specs.declared.values.Inode.{Inode}
use Rattle.vol_types.specs.declared.values.Link.{Link}
use Rattle.vol_types.specs.declared.values.Value.{Value}

-- what all entries have, one that is looked up has
entry_has : (P : Pos × Value → Type 0) (pos : Pos) (value : Value) (entries : Entries) → value_at pos_cmp pos entries ≡ Some value → All P entries → P (pos, value)
entry_has P pos value [] found all = absurd (none_some value found)
entry_has P pos value (e ∷ es) found all = by (is_at (pos_cmp pos) e.0) refl found (λ later. entry_has P pos value es later (All-tail P e es all))
  where
    by : (b : Bool) → is_at (pos_cmp pos) e.0 ≡ b → cond b (Some e.1) (value_at pos_cmp pos es) ≡ Some value → (value_at pos_cmp pos es ≡ Some value → P (pos, value)) → P (pos, value)
    by true at here later = subst P (λ i. (sym (same_key pos_exact pos e.0 at) i, same_Some e.1 value here i)) (All-head P e es all)
    by false at here later = later here

module _ (P : Pos × Value → Type 0) (keys : KeyMap) (btree : Btree) (inode offset : ℕ) (all : All P (entries_of keys btree)) (value : Value) where
  -- the first value of some ids at a position has it with the id whose own it is
  first_has : (ids : List ℕ) → first_value keys btree inode offset ids ≡ Some value → (owner : ℕ) × P (record { inode = inode; offset = offset; snapshot = owner }, value)
  first_has [] found = absurd (none_some value found)
  first_has (id ∷ ids) found = by (own_value keys btree inode offset id) refl found (first_has ids)
    where
      by : (own : Option Value) → own_value keys btree inode offset id ≡ own → option_or own (first_value keys btree inode offset ids) ≡ Some value
          → (first_value keys btree inode offset ids ≡ Some value → (owner : ℕ) × P (record { inode = inode; offset = offset; snapshot = owner }, value)) → (owner : ℕ) × P (record { inode = inode; offset = offset; snapshot = owner }, value)
      by None is here later = later here
      by (Some v) is here later = (id, entry_has P (record { inode = inode; offset = offset; snapshot = id }) value (entries_of keys btree) (is ∙ here) all)

-- what the names of all entries have, those have that show under a slot
links_have : (Q : Link → Type 0) (keys : KeyMap) (id directory slot : ℕ) → All (λ (entry : Pos × Value). All Q (links_of (Some entry.1))) keys.dirents → All Q (links_in keys id directory slot)
links_have Q keys id directory slot all = subst (All Q) (sym (links_shown (first_value keys Dirents directory slot (chain_of (snaps_of keys) id)))) (by (first_value keys Dirents directory slot (chain_of (snaps_of keys) id)) refl)
  where
    by : (o : Option Value) → first_value keys Dirents directory slot (chain_of (snaps_of keys) id) ≡ o → All Q (links_of o)
    by None is = All-nil Q
    by (Some value) is = (first_has (λ (entry : Pos × Value). All Q (links_of (Some entry.1))) keys Dirents directory slot all value (chain_of (snaps_of keys) id) is).1

-- The number of an inode that shows is drawn.
pub shown_is_drawn : (keys : KeyMap) (id number : ℕ) (kind : FileKind) → AreKeysDrawn keys → kind_in keys id number ≡ Some kind → IsDrawn keys number
shown_is_drawn keys id number kind drawn is = by (first_value keys Inodes 0 number (chain_of (snaps_of keys) id)) refl
  where
    by : (o : Option Value) → first_value keys Inodes 0 number (chain_of (snaps_of keys) id) ≡ o → IsDrawn keys number
    by None none = absurd (none_some kind (sym (ap (λ o. option_map (λ (inode : Inode). inode.kind) (inode_of (shown o))) none) ∙ is))
    by (Some value) some = (first_has (IsKeyOf keys Inodes) keys Inodes 0 number (drawn.each Inodes) value (chain_of (snaps_of keys) id) some).1.numbers

-- what the names that show under a slot have, those that may stand there have, where new ones have it
each_may : (Q : Link → Type 0) (keys : KeyMap) (id directory slot : ℕ) (links : List Link) → All (λ (entry : Pos × Value). All Q (links_of (Some entry.1))) keys.dirents → ((link : Link) → IsNewLink keys link → Q link) → MayStandUnder keys id directory slot links → All Q links
each_may Q keys id directory slot links all new = All-weaker (λ (link : Link). IsIn link (links_in keys id directory slot) ⊎ IsNewLink keys link) Q
    (λ (link : Link) (either : IsIn link (links_in keys id directory slot) ⊎ IsNewLink keys link). ⊎_elim
    (λ (is : IsIn link (links_in keys id directory slot)). all_in Q link (links_in keys id directory slot) (links_have Q keys id directory slot all) is)
    (new link) either)
    links

-- The names that may stand under a slot lead to drawn numbers,
pub standing_drawn : (keys : KeyMap) (id directory slot : ℕ) (links : List Link) → AreKeysDrawn keys → MayStandUnder keys id directory slot links → All (λ (link : Link). IsDrawn keys link.number) links
standing_drawn keys id directory slot links drawn = each_may (λ (link : Link). IsDrawn keys link.number) keys id directory slot links
    (All-weaker (IsKeyOf keys Dirents) (λ (entry : Pos × Value). All (λ (link : Link). IsDrawn keys link.number) (links_of (Some entry.1))) (λ (entry : Pos × Value) (key : IsKeyOf keys Dirents entry). key.numbers.1) keys.dirents (drawn.each Dirents))
    (λ link new. new.drawn)

-- and are good.
pub standing_good : (keys : KeyMap) (id directory slot : ℕ) (links : List Link) → AreNamesGood keys → MayStandUnder keys id directory slot links → All (λ (link : Link). is_good_name link.name ≡ true) links
standing_good keys id directory slot links named = each_may (λ (link : Link). is_good_name link.name ≡ true) keys id directory slot links named.names (λ link new. new.good)
