-- The fields of sets and entries are exact.
use Rattle.std.proofs.Common.{◌≡◌, ℕ, zero, suc, ◌^◌, ◌<◌, Bool, true, false, List, length, Option, eqb, ltb, refl, sym, ap, subst, ◌∙◌, arith, lit<}
use Rattle.std.specs.Prelude.{⊤, ◌&&◌}
use Rattle.std.proofs.lemmas.Bool.{eqb-true, ltb-true}
use Rattle.vol_types.specs.declared.pointers.NodePtr.{NodePtr}
use Rattle.vol_types.specs.declared.positions.Btree.{Btree}
use Rattle.vol_types.specs.declared.positions.Btree.TheVariants.{Extents, Inodes, Dirents, Subvols, Snapshots, Alloc, Backptrs, Deleted, Counters}
use Rattle.vol_types.specs.declared.values.Value.{Value}
use Rattle.vol_types.specs.Btrees.{btree_code}
use Rattle.vol_types.specs.Ranges.{IsNode, IsKeyValue}
use Rattle.vol_types.specs.Widths.{PosFits, NodeFits, KeyValueFits}
use Rattle.key_codec.specs.declared.fault.KeyFault.TheVariants.{Kind}
use Rattle.key_codec.specs.Exact.{IsExactBut}
use Rattle.key_codec.specs.Formats.{FormatOf, u8_byte, u32_le, u64_le, checked, checked_by, followed, both, items, lifted}
use Rattle.key_codec.specs.Keys.{kind_number, fields}
use Rattle.key_codec.specs.Kinds as kinds
use Rattle.key_codec.specs.Combined.{u8_byte-exact, mapped-exact, checked-exact, checked_by-exact, followed-exact, both-exact, lifted-exact}
use Rattle.key_codec.specs.FieldLaws as of_keys
use Rattle.key_codec.specs.KindLaws.{node-exact}
use Rattle.key_codec.specs.KeyLaws.{IsOfKind, kinds_known, fields-exact}
use Rattle.record_codec.specs.declared.fault.RecordFault.{RecordFault}
use Rattle.record_codec.specs.declared.fault.RecordFault.TheVariants.{Short, Key, Field}
use Rattle.record_codec.specs.Fields.{byte, u32_field, u64_field, position, root, zeros, btree_of, btree, value_in, listing}
use Rattle.record_codec.specs.Reading.{key_fault, root_fault}
use Rattle.vol_types.specs.Standing.{stands, Stands}
use Rattle.record_codec.proofs.Carried.{btree_of-code}
use Rattle.record_codec.proofs.StandingLaws.{stands_found, stands_again}

abbrev pub IsByte : ℕ → Type 0
IsByte n = n < 256

abbrev pub IsU32 : ℕ → Type 0
IsU32 n = n < 2 ^ 32

abbrev pub IsU64 : ℕ → Type 0
IsU64 n = n < 2 ^ 64

pub byte-exact : IsExactBut Short IsByte byte
unfolding byte
byte-exact = lifted-exact IsByte key_fault u8_byte refl u8_byte-exact

pub u32_field-exact : IsExactBut Short IsU32 u32_field
unfolding u32_field
u32_field-exact = lifted-exact IsU32 key_fault u32_le refl of_keys.u32_le-exact

pub u64_field-exact : IsExactBut Short IsU64 u64_field
unfolding u64_field
u64_field-exact = lifted-exact IsU64 key_fault u64_le refl of_keys.u64_le-exact

pub position-exact : IsExactBut Short PosFits position
unfolding position
position-exact = lifted-exact PosFits key_fault kinds.position refl of_keys.position-exact

-- The pointer has its widths, and leads to a node.
abbrev pub IsRoot : NodePtr → Type 0
IsRoot node = NodeFits node × IsNode node

pub root-exact : IsExactBut Short IsRoot root
unfolding root
root-exact = lifted-exact IsRoot root_fault kinds.node_fields refl node-exact

-- Where both hold, each does.
pub both_true : (a b : Bool) → a && b ≡ true → (a ≡ true) × (b ≡ true)
both_true true b e = (refl, e)
both_true false b e = absurd cc

-- Where each holds, both do.
pub true_both : (a b : Bool) → a ≡ true → b ≡ true → a && b ≡ true
true_both true b first second = second
true_both false b first second = absurd cc

-- whether both are zero
abbrev are_zero : ℕ × ℕ → Bool
are_zero x = eqb x.0 0 && eqb x.1 0

-- two zeros
abbrev two_zeros : ℕ × ℕ
two_zeros = (0, 0)

are_zeros : (first second : ℕ) → eqb first 0 && eqb second 0 ≡ true → two_zeros ≡ (first, second)
are_zeros first second e =
    let parts = both_true (eqb first 0) (eqb second 0) e in
    ap (λ n. (0, n)) (sym (eqb-true second 0 parts.1)) ∙ ap (λ n. (n, second)) (sym (eqb-true first 0 parts.0))

pub zeros-exact : IsExactBut Short (λ x. ⊤) zeros
unfolding zeros
zeros-exact = mapped-exact (λ p. (IsByte p.0 × IsByte p.1) × (are_zero p ≡ true)) (λ x. ⊤) (checked (both byte byte) are_zero Field) (λ x. tt) (λ x. (0, 0))
    (λ p fits. (tt, are_zeros p.0 p.1 fits.1)) (λ x fits. (((lit< tt, lit< tt), refl), refl))
    (checked-exact (λ p. IsByte p.0 × IsByte p.1) (both byte byte) are_zero Field (both-exact IsByte IsByte byte byte byte-exact byte-exact))

code-btree_of : (code : ℕ) → ltb code 9 ≡ true → btree_code (btree_of code) ≡ code
code-btree_of zero e = refl
code-btree_of (suc zero) e = refl
code-btree_of (suc (suc zero)) e = refl
code-btree_of (suc (suc (suc zero))) e = refl
code-btree_of (suc (suc (suc (suc zero)))) e = refl
code-btree_of (suc (suc (suc (suc (suc zero))))) e = refl
code-btree_of (suc (suc (suc (suc (suc (suc zero)))))) e = refl
code-btree_of (suc (suc (suc (suc (suc (suc (suc zero))))))) e = refl
code-btree_of (suc (suc (suc (suc (suc (suc (suc (suc zero)))))))) e = refl
code-btree_of (suc (suc (suc (suc (suc (suc (suc (suc (suc code))))))))) e = absurd (omega (arith, ltb-true (suc (suc (suc (suc (suc (suc (suc (suc (suc code))))))))) 9 e))

btree_code-small : (tree : Btree) → IsByte (btree_code tree) × (ltb (btree_code tree) 9 ≡ true)
btree_code-small Extents = (lit< tt, refl)
btree_code-small Inodes = (lit< tt, refl)
btree_code-small Dirents = (lit< tt, refl)
btree_code-small Subvols = (lit< tt, refl)
btree_code-small Snapshots = (lit< tt, refl)
btree_code-small Alloc = (lit< tt, refl)
btree_code-small Backptrs = (lit< tt, refl)
btree_code-small Deleted = (lit< tt, refl)
btree_code-small Counters = (lit< tt, refl)

pub btree-exact : IsExactBut Short (λ tree. ⊤) btree
unfolding btree
btree-exact = mapped-exact (λ n. IsByte n × (ltb n 9 ≡ true)) (λ tree. ⊤) (checked byte (λ n. ltb n 9) Field) btree_of btree_code
    (λ n fits. (tt, code-btree_of n fits.1)) (λ tree fits. (btree_code-small tree, btree_of-code tree))
    (checked-exact IsByte byte (λ n. ltb n 9) Field byte-exact)

-- The value has its widths, is in range, and may stand there.
abbrev pub IsValueIn : Btree → ℕ → Option Value → Type 0
IsValueIn tree level value = (KeyValueFits value × IsKeyValue value) × Stands tree level value

pub value_in-exact : (tree : Btree) (level : ℕ) → IsExactBut Short (IsValueIn tree level) (value_in tree level)
unfolding value_in
value_in-exact tree level = mapped-exact (λ (p : ℕ × Option Value). (IsByte p.0 × (stands tree level p.0 ≡ true)) × IsOfKind p.0 p.1) (IsValueIn tree level)
    (followed (checked_by byte (stands tree level) (λ kind. Key (Kind kind))) (λ kind. lifted key_fault (fields kind))) (λ p. p.1) (λ value. (kind_number value, value))
    (λ p fits. ((fits.1.0, stands_found tree level p.1 (subst (λ kind. stands tree level kind ≡ true) (sym fits.1.1) fits.0.1)), ap (λ n. (n, p.1)) fits.1.1))
    (λ value fits. (((omega (arith, kinds_known value), stands_again tree level value fits.1), (fits.0, refl)), refl))
    (followed-exact (λ kind. IsByte kind × (stands tree level kind ≡ true)) IsOfKind (checked_by byte (stands tree level) (λ kind. Key (Kind kind))) (λ kind. lifted key_fault (fields kind))
    (checked_by-exact IsByte byte (stands tree level) (λ kind. Key (Kind kind)) byte-exact) (λ kind. lifted-exact (IsOfKind kind) key_fault (fields kind) refl (fields-exact kind)))

-- A list after its count is exact.
pub listing-exact : {A : Type 0} (P : List A → Type 0) (item : Option A → FormatOf RecordFault A) → ((n : ℕ) → IsExactBut Short (λ xs. P xs × (length xs ≡ n)) (items item n)) → IsExactBut Short (λ xs. P xs × (length xs < 2 ^ 32)) (listing item)
unfolding listing
listing-exact {A} P item exact = mapped-exact (λ (p : ℕ × List A). IsU32 p.0 × (P p.1 × (length p.1 ≡ p.0))) (λ xs. P xs × (length xs < 2 ^ 32)) (followed u32_field (items item)) (λ p. p.1) (λ xs. (length xs, xs))
    (λ p fits. ((fits.1.0, subst (λ n. IsU32 n) (sym fits.1.1) fits.0), ap (λ n. (n, p.1)) fits.1.1))
    (λ xs fits. ((fits.1, (fits.0, refl)), refl))
    (followed-exact IsU32 (λ n xs. P xs × (length xs ≡ n)) u32_field (items item) u32_field-exact exact)
