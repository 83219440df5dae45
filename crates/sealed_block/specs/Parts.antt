-- The test of whether a head continues a record, of which definitions are made that look for the parts of a record among blocks.
use Rattle.std.proofs.Common.{◌≡◌, ℕ, ◌+◌, ◌<◌, ◌≤◌, ◌⊎◌, ⊎_elim, Bool, true, false, refl, arith}
use Rattle.std.specs.Prelude.{◌&&◌, ◌||◌, ◌==◌, ◌↔◌, nat_lt, nat_le}
use Rattle.std.specs.Cmp.Derive.{both_true}
use Rattle.std.specs.Str.{bytes_eq}
use Rattle.std.proofs.lemmas.Bool.{and_parts, cases_lt, eq-eqb, eqb-true, false≢true, le-leb, leb-true, lt-ltb, ltb-true}
use Rattle.std.proofs.lemmas.Slice.Eq.{bytes_eq-Decides}
use Rattle.sealed_block.specs.declared.heads.Head.{Head}
use Rattle.sealed_block.specs.Records.{Continues, IsOfRecord}

-- whether two heads are of one record
abbrev pub is_of_record : Head → Head → Bool
is_of_record first head =
    head.kind == first.kind && head.version == first.version && head.parts == first.parts && bytes_eq head.id first.id
    && head.owner == first.owner && head.sequence == first.sequence && bytes_eq head.whole first.whole

-- whether a head is that of part p of the record whose part 0 has the first head
abbrev pub continues : Head → ℕ → Head → Bool
continues first p head =
    is_of_record first head && head.part == p && head.number == first.number + p
    && nat_lt 0 head.length && (nat_le first.parts (p + 1) || head.length == 3968)

first_true : (a b : Bool) → a ≡ true → (a || b) ≡ true
first_true true b is = refl
first_true false b is = absurd (false≢true is)

second_true : (a b : Bool) → b ≡ true → (a || b) ≡ true
second_true true b is = refl
second_true false b is = is

-- It passes what continues the record.
pub continues-true : (first : Head) (p : ℕ) (head : Head) → Continues first p head → continues first p head ≡ true
continues-true first p head is =
    both_true (both_true (both_true (both_true (both_true (both_true (both_true (both_true (both_true (both_true
    (eq-eqb head.kind first.kind is.record_is.kind)
    (eq-eqb head.version first.version is.record_is.version))
    (eq-eqb head.parts first.parts is.record_is.parts))
    ((bytes_eq-Decides head.id first.id).1 is.record_is.id))
    (eq-eqb head.owner first.owner is.record_is.owner))
    (eq-eqb head.sequence first.sequence is.record_is.sequence))
    ((bytes_eq-Decides head.whole first.whole).1 is.record_is.whole))
    (eq-eqb head.part p is.part))
    (eq-eqb head.number (first.number + p) is.number))
    (lt-ltb 0 head.length is.filled))
    (⊎_elim (λ (more : p + 1 < first.parts). second_true _ _ (eq-eqb head.length 3968 (is.full more))) (λ (last : first.parts ≤ p + 1). first_true _ _ (le-leb first.parts (p + 1) last)) (cases_lt (p + 1) first.parts))

-- And nothing else.
pub continues-is : (first : Head) (p : ℕ) (head : Head) → continues first p head ≡ true → Continues first p head
continues-is first p head is =
    let a = and_parts _ _ is in
    let b = and_parts _ _ a.0 in
    let c = and_parts _ _ b.0 in
    let d = and_parts _ _ c.0 in
    let e = and_parts _ _ d.0 in
    let f = and_parts _ _ e.0 in
    let g = and_parts _ _ f.0 in
    let h = and_parts _ _ g.0 in
    let i = and_parts _ _ h.0 in
    let j = and_parts _ _ i.0 in
    record {
      record_is = record {
        kind = eqb-true head.kind first.kind j.0;
        version = eqb-true head.version first.version j.1;
        parts = eqb-true head.parts first.parts i.1;
        id = (bytes_eq-Decides head.id first.id).0 h.1;
        owner = eqb-true head.owner first.owner g.1;
        sequence = eqb-true head.sequence first.sequence f.1;
        whole = (bytes_eq-Decides head.whole first.whole).0 e.1;
      };
      part = eqb-true head.part p d.1;
      number = eqb-true head.number (first.number + p) c.1;
      filled = ltb-true 0 head.length b.1;
      full = λ more. last_or_full (nat_le first.parts (p + 1)) refl a.1 more;
    }
  where
    last_or_full : (b : Bool) → nat_le first.parts (p + 1) ≡ b → (b || head.length == 3968) ≡ true → p + 1 < first.parts → head.length ≡ 3968
    last_or_full true last is more = absurd (omega (arith, leb-true first.parts (p + 1) last, more))
    last_or_full false last is more = eqb-true head.length 3968 is
