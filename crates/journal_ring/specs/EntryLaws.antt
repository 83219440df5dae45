-- What a whole entry is made of, and that it stays while its places do; laws for whoever looks at images.
use Rattle.std.proofs.Common.{◌≡◌, ℕ, zero, suc, ◌+◌, ◌^◌, ◌<◌, ◌≤◌, Bool, true, false, cond, List, Option, Some, None, refl, ap, ◌∙◌, sym, subst, arith}
use Rattle.std.proofs.lemmas.Bool.{and_parts, eqb-true, ltb-true}
use Rattle.std.proofs.lemmas.Option.{cond_some, none-some, same_Some, option_and_then_some}
use Rattle.std.proofs.lemmas.Slice.Eq.{bytes_eq-Decides}
use Rattle.std.specs.Prelude.{option_and_then, option_map}
use Rattle.sealed_block.specs.declared.heads.Head.{Head}
use Rattle.sealed_block.specs.Opening.{head_in, opened}
use Rattle.record_codec.specs.declared.entries.EntryRecord.{EntryRecord}
use Rattle.vol_types.specs.declared.layout.Layout.{Layout}
use Rattle.journal_ring.specs.declared.found.FoundEntry.{FoundEntry}
use Rattle.journal_ring.specs.Parts.{Area, first_of_two, first_on, joined, numbered, part_in, part_of, part_on, with_next}
use Rattle.journal_ring.specs.Entries.{AgreeFrom, IsWholeOn, begun_by, entry_on, entry_under, found_at, is_entry_head}

-- A block that opens is a part of at least one.
pub opens_some_parts : (block : List ℕ) (head : Head) → opened block ≡ Some head → head.part < head.parts
unfolding opened
opens_some_parts block head is =
    let found = cond_some _ (head_in block) head is in
    let ranges = (and_parts _ _ (and_parts _ _ found.0).0).1 in
    let within : (head_in block).part < (head_in block).parts = ltb-true (head_in block).part (head_in block).parts (and_parts _ _ (and_parts _ _ (and_parts _ _ ranges).0).0).1 in
    subst (λ (h : Head). h.part < h.parts) found.1 within

-- What a head of part 0 of an entry says.
pub record IsEntryHead (id : List ℕ) (number : ℕ) (head : Head) : Type 0 where
  pub kind : head.kind ≡ 2
  pub version : head.version ≡ 1
  pub part : head.part ≡ 0
  pub id_is : head.id ≡ id
  pub number_is : head.number ≡ number
  pub end : number + head.parts < 2 ^ 64

pub entry_head_is : (id : List ℕ) (number : ℕ) (head : Head) → is_entry_head id number head ≡ true → IsEntryHead id number head
entry_head_is id number head is =
    let last = and_parts _ _ is in
    let fifth = and_parts _ _ last.0 in
    let fourth = and_parts _ _ fifth.0 in
    let third = and_parts _ _ fourth.0 in
    let second = and_parts _ _ third.0 in
    record {
      kind = eqb-true head.kind 2 second.0;
      version = eqb-true head.version 1 second.1;
      part = eqb-true head.part 0 third.1;
      id_is = (bytes_eq-Decides head.id id).0 fourth.1;
      number_is = eqb-true head.number number fifth.1;
      end = ltb-true (number + head.parts) (2 ^ 64) last.1;
    }

-- What makes an entry of the blocks: part 0's, its head, and the joined payload.
pub record Begins (layout : Layout) (area : Area) (dev number : ℕ) (found : FoundEntry) : Type 0 where
  pub block : List ℕ
  pub head : Head
  pub payload : List ℕ
  pub stands : numbered layout area dev number ≡ Some block
  pub opens : opened block ≡ Some head
  pub is : is_entry_head layout.id number head ≡ true
  pub all : joined layout area dev head head.parts ≡ Some payload
  pub under : entry_under head payload ≡ Some found.entry
  pub here : found_at number head found.entry ≡ found

cond_found : {A : Type 0} (test : Bool) (o : Option A) (y : A) → cond {A = Option A} test o None ≡ Some y → (test ≡ true) × (o ≡ Some y)
cond_found true o y is = (refl, is)
cond_found false o y is = absurd (none-some y is)

option_map_some : {A B : Type 0} (f : A → B) (o : Option A) (y : B) → option_map f o ≡ Some y → (x : A) × (o ≡ Some x) × (f x ≡ y)
option_map_some f None y is = absurd (none-some y is)
option_map_some f (Some x) y is = (x, refl, same_Some (f x) y is)

-- A whole entry begins so,
pub begins : (layout : Layout) (area : Area) (dev number : ℕ) (found : FoundEntry) → entry_on layout area dev number ≡ Some found → Begins layout area dev number found
unfolding entry_on
begins layout area dev number found is =
    option_and_then_some (begun_by layout area dev number) (option_and_then opened (numbered layout area dev number)) found is (λ (head : Head) at begun.
    option_and_then_some opened (numbered layout area dev number) head at (λ (block : List ℕ) stands opens.
    let parts = cond_found (is_entry_head layout.id number head) (option_map (found_at number head) (option_and_then (entry_under head) (joined layout area dev head head.parts))) found begun in
    let mapped = option_map_some (found_at number head) (option_and_then (entry_under head) (joined layout area dev head head.parts)) found parts.1 in
    option_and_then_some (entry_under head) (joined layout area dev head head.parts) mapped.0 mapped.1 (λ (payload : List ℕ) all under.
    let same : mapped.0 ≡ found.entry = ap (λ (f : FoundEntry). f.entry) mapped.2 in
    record {
      block = block;
      head = head;
      payload = payload;
      stands = stands;
      opens = opens;
      is = parts.0;
      all = all;
      under = subst (λ (e : EntryRecord). entry_under head payload ≡ Some e) same under;
      here = subst (λ (e : EntryRecord). found_at number head e ≡ found) same mapped.2;
    })))

-- and what begins so is a whole entry.
pub begun : (layout : Layout) (area : Area) (dev number : ℕ) (found : FoundEntry) → Begins layout area dev number found → entry_on layout area dev number ≡ Some found
unfolding entry_on
begun layout area dev number found b =
    ap (λ o. option_and_then (begun_by layout area dev number) (option_and_then opened o)) b.stands
    ∙ ap (option_and_then (begun_by layout area dev number)) b.opens
    ∙ ap (λ t. cond {A = Option FoundEntry} t (option_map (found_at number b.head) (option_and_then (entry_under b.head) (joined layout area dev b.head b.head.parts))) None) b.is
    ∙ ap (λ o. option_map (found_at number b.head) (option_and_then (entry_under b.head) o)) b.all
    ∙ ap (option_map (found_at number b.head)) b.under
    ∙ ap Some b.here

-- A whole entry has the number under which it was looked for.
pub number_found : (layout : Layout) (area : Area) (dev number : ℕ) (found : FoundEntry) → entry_on layout area dev number ≡ Some found → found.number ≡ number
number_found layout area dev number found is = sym (ap (λ (f : FoundEntry). f.number) (begins layout area dev number found is).here)

first_on_same : {A : Type 0} (on other : ℕ → Option A) (count : ℕ) → ((dev : ℕ) → dev < count → on dev ≡ other dev) → first_on on count ≡ first_on other count
first_on_same on other zero same = refl
first_on_same on other (suc dev) same =
    ap (λ o. first_of_two o (on dev)) (first_on_same on other dev (λ d lower. same d (omega (arith, lower))))
    ∙ ap (first_of_two (first_on other dev)) (same dev (omega arith))

module _ (layout : Layout) (one other : Area) (dev : ℕ) (first : Head) (mirror : dev < layout.metadata_replicas) (agree : (d p : ℕ) → d < layout.metadata_replicas → p < first.parts → numbered layout one d (first.number + p) ≡ numbered layout other d (first.number + p)) where
  part_same : (p : ℕ) → p < first.parts → part_of layout one dev first p ≡ part_of layout other dev first p
  part_same zero lower = ap (option_and_then (part_in first 0)) (agree dev 0 mirror lower)
  part_same (suc p) lower = first_on_same (part_on layout one first (suc p)) (part_on layout other first (suc p)) layout.metadata_replicas (λ d within. ap (option_and_then (part_in first (suc p))) (agree d (suc p) within lower))

  pub joined_same : (count : ℕ) → count ≤ first.parts → joined layout one dev first count ≡ joined layout other dev first count
  joined_same zero within = refl
  joined_same (suc p) within =
      ap (λ o. with_next o (part_of layout one dev first p)) (joined_same p (omega (arith, within)))
      ∙ ap (with_next (joined layout other dev first p)) (part_same p (omega (arith, within)))

-- A whole entry stays whole where its places stay.
pub stays_whole : (layout : Layout) (one other : Area) (dev : ℕ) (found : FoundEntry) → IsWholeOn layout one dev found → AgreeFrom layout one other found.number found.end → IsWholeOn layout other dev found
stays_whole layout one other dev found is agree =
    let b = begins layout one dev found.number found is.whole in
    let head_is = entry_head_is layout.id found.number b.head b.is in
    let some : b.head.part < b.head.parts = opens_some_parts b.block b.head b.opens in
    let end : found.number + b.head.parts ≡ found.end = ap (λ (f : FoundEntry). f.end) b.here in
    let first_same : numbered layout one dev found.number ≡ numbered layout other dev found.number = agree dev found.number is.mirror (omega arith) (omega (arith, end, some)) in
    let parts_same : (d p : ℕ) → d < layout.metadata_replicas → p < b.head.parts → numbered layout one d (b.head.number + p) ≡ numbered layout other d (b.head.number + p) =
    λ d p within lower. agree d (b.head.number + p) within (omega (arith, head_is.number_is)) (omega (arith, head_is.number_is, end, lower)) in
    record {
      mirror = is.mirror;
      whole = begun layout other dev found.number found (record {
        block = b.block;
        head = b.head;
        payload = b.payload;
        stands = sym first_same ∙ b.stands;
        opens = b.opens;
        is = b.is;
        all = sym (joined_same layout one other dev b.head is.mirror parts_same b.head.parts (omega arith)) ∙ b.all;
        under = b.under;
        here = b.here;
      });
    }
