-- Names and births that a test finds alike are one.
use Rattle.std.proofs.Common.{◌≡◌, ℕ, ◌<◌, Bool, true, false, cond, refl, sym, ap, ◌∙◌, arith}
use Rattle.std.specs.Prelude.{◌≢◌, ◌==◌, ◌&&◌}
use Rattle.std.specs.BTreeMap.{is_at}
use Rattle.std.specs.Ordering.{is_eq, nat_cmp}
use Rattle.std.specs.declared.cmp.Ordering.{Ordering}
use Rattle.std.specs.declared.cmp.Ordering.TheVariants.{Less, Equal, Greater}
use Rattle.std.proofs.lemmas.Bool.{true≢false, and_parts, eqb-true, eq-eqb}
use Rattle.std.proofs.lemmas.Cmp.{nat_cmp_total, tied_itself}
use Rattle.std.proofs.lemmas.Map.Lookups.{exact_unsigned}
use Rattle.birth_index.specs.declared.name.NodeName.{NodeName}
use Rattle.tree_nodes.specs.RowLaws.{same_at}
use Rattle.vol_types.specs.Btrees.{btree_code}
use Rattle.vol_types.specs.PositionLaws.{pos_total}
use Rattle.vol_types.specs.Positions.{pos_cmp}
use Rattle.vol_types.specs.declared.positions.Btree.{Btree}
use Rattle.vol_types.specs.declared.positions.Btree.TheVariants.{Extents, Inodes, Dirents, Subvols, Snapshots, Alloc, Backptrs, Deleted, Counters}

-- whether two names are of one level of one btree
abbrev pub same_level : NodeName → NodeName → Bool
same_level one other = (btree_code one.btree == btree_code other.btree) && (one.level == other.level)

-- whether two names are one
abbrev pub same_name : NodeName → NodeName → Bool
same_name one other = same_level one other && is_at (pos_cmp one.greatest) other.greatest

-- the btree with a number; any one where none has it
abbrev btree_at : ℕ → Btree
btree_at code =
    cond (code == 0) Extents (cond (code == 1) Inodes (cond (code == 2) Dirents (cond (code == 3) Subvols (cond (code == 4) Snapshots (cond (code == 5) Alloc (cond (code == 6) Backptrs (cond (code == 7) Deleted Counters)))))))

btree_at-code : (btree : Btree) → btree_at (btree_code btree) ≡ btree
btree_at-code Extents = refl
btree_at-code Inodes = refl
btree_at-code Dirents = refl
btree_at-code Subvols = refl
btree_at-code Snapshots = refl
btree_at-code Alloc = refl
btree_at-code Backptrs = refl
btree_at-code Deleted = refl
btree_at-code Counters = refl

-- Btrees with the same number are one.
pub one_btree : (one other : Btree) → btree_code one ≡ btree_code other → one ≡ other
one_btree one other same = sym (btree_at-code one) ∙ ap btree_at same ∙ btree_at-code other

-- There are nine btrees.
pub code-below : (btree : Btree) → btree_code btree < 9
code-below Extents = omega arith
code-below Inodes = omega arith
code-below Dirents = omega arith
code-below Subvols = omega arith
code-below Snapshots = omega arith
code-below Alloc = omega arith
code-below Backptrs = omega arith
code-below Deleted = omega arith
code-below Counters = omega arith

-- Names of one level of one btree have the same btree and the same level.
pub level_parts : (one other : NodeName) → same_level one other ≡ true → (one.btree ≡ other.btree) × (one.level ≡ other.level)
level_parts one other same =
    let parts = and_parts (btree_code one.btree == btree_code other.btree) (one.level == other.level) same in
    (one_btree one.btree other.btree (eqb-true (btree_code one.btree) (btree_code other.btree) parts.0), eqb-true one.level other.level parts.1)

-- Names that the test finds alike are one.
pub one_name : (one other : NodeName) → same_name one other ≡ true → one ≡ other
one_name one other same =
    let parts = and_parts (same_level one other) (is_at (pos_cmp one.greatest) other.greatest) same in
    let levels = level_parts one other parts.0 in
    let greatest = same_at one.greatest other.greatest parts.1 in
    λ i. record { btree = levels.0 i; level = levels.1 i; greatest = greatest i }

-- A name is alike itself.
pub same_itself : (name : NodeName) → same_name name name ≡ true
same_itself name =
    ap (λ (b : Bool). (b && (name.level == name.level)) && is_at (pos_cmp name.greatest) name.greatest) (eq-eqb (btree_code name.btree) (btree_code name.btree) refl)
    ∙ ap (λ (b : Bool). b && is_at (pos_cmp name.greatest) name.greatest) (eq-eqb name.level name.level refl)
    ∙ ap is_eq (tied_itself pos_total name.greatest)

-- Names that the test finds apart differ.
pub names_apart : (one other : NodeName) → same_name one other ≡ false → one ≢ other
names_apart one other apart same = true≢false (sym (ap (same_name one) (sym same) ∙ same_itself one) ∙ apart)

-- Names that differ are found apart.
pub apart_names : (one other : NodeName) → one ≢ other → same_name one other ≡ false
apart_names one other apart = by (same_name one other) refl
  where
    by : (b : Bool) → same_name one other ≡ b → b ≡ false
    by true is = absurd (apart (one_name one other is))
    by false is = refl

alike : (r : Ordering) → is_eq r ≡ true → r ≡ Equal
alike Less is = absurd (true≢false (sym is))
alike Equal is = refl
alike Greater is = absurd (true≢false (sym is))

-- Births that the test finds alike are one.
pub one_birth : (one other : ℕ) → is_at (nat_cmp one) other ≡ true → one ≡ other
one_birth one other is = exact_unsigned one other (alike (nat_cmp one other) is)

-- A birth is alike itself.
pub birth_itself : (birth : ℕ) → is_at (nat_cmp birth) birth ≡ true
birth_itself birth = ap is_eq (tied_itself nat_cmp_total birth)

-- Births that differ are found apart.
pub apart_births : (one other : ℕ) → one ≢ other → is_at (nat_cmp one) other ≡ false
apart_births one other apart = by (is_at (nat_cmp one) other) refl
  where
    by : (b : Bool) → is_at (nat_cmp one) other ≡ b → b ≡ false
    by true is = absurd (apart (one_birth one other is))
    by false is = refl
