-- What makes an entry are its sealed blocks, and there are no others.
use Rattle.std.proofs.Common.{◌≡◌, ℕ, ◌+◌, ◌*◌, ◌-◌, ◌^◌, ◌<◌, ◌≤◌, List, [], ◌∷◌, ◌++◌, length, take, drop, get_or, Some, Ok, refl, ap, ◌∙◌, sym, subst, arith, All}
use Rattle.std.proofs.lemmas.List.{append-nil, get_or_default, same_lists}
use Rattle.std.proofs.lemmas.List.Elements.{All-append, All-head, All-nil, All-tail, All-from_get_or}
use Rattle.std.proofs.lemmas.Option.{same_Some}
use Rattle.std.specs.List.{flat_map}
use Rattle.sha2.specs.Sha256.{sha256}
use Rattle.sealed_block.specs.declared.heads.Head.{Head}
use Rattle.sealed_block.specs.Blocks.{AreBytes, Opens}
use Rattle.sealed_block.specs.Opening.{opened, payload_in}
use Rattle.sealed_block.specs.Records.{Continues}
use Rattle.key_codec.specs.Combined.{bind_ok, ok_is}
use Rattle.key_codec.specs.Exact.{IsExactBut}
use Rattle.record_codec.specs.declared.entries.EntryRecord.{EntryRecord}
use Rattle.record_codec.specs.declared.fault.RecordFault.TheVariants.{Short}
use Rattle.record_codec.specs.Entries.{IsEntry, entry_format, entry_in, entry_length_of}
use Rattle.record_codec.specs.Sets.{all_read}
use Rattle.vol_types.specs.declared.layout.Layout.{Layout}
use Rattle.journal_ring.specs.declared.found.FoundEntry.{FoundEntry}
use Rattle.journal_ring.specs.Parts.{Area}
use Rattle.journal_ring.specs.Entries.{IsMadeOf, IsWholeOn}
use Rattle.journal_ring.specs.MadeOf.{made_of}
use Rattle.journal_ring.specs.EntryBlocks.{AreEntryBlocks, IsPartBlock, part_count, part_head, part_payload, parts_of}
use Rattle.journal_ring.specs.EntryLaws.{IsEntryHead, entry_head_is, opens_some_parts}
use Rattle.journal_ring.proofs.Pieces.{AreFull, piece_at, whole_length}

-- What opens is sealed, the format of entries is exact, and so long is an entry.
abbrev pub AreSealed : Type 0
AreSealed = (block : List ℕ) (h : Head) → opened block ≡ Some h → Opens block h (payload_in block)

abbrev pub IsExactFormat : Type 0
IsExactFormat = IsExactBut Short IsEntry entry_format

abbrev pub AreSoLong : Type 0
AreSoLong = (entry : EntryRecord) → length (entry_format.encode entry) ≡ entry_length_of entry.roots entry.updates

-- What is read to its end was read with nothing behind it.
all_read_is : (x : EntryRecord) (rest : List ℕ) (entry : EntryRecord) → all_read (x, rest) ≡ Ok entry → (x ≡ entry) × (rest ≡ [])
all_read_is x [] entry is = (ok_is x entry is, refl)
all_read_is x (b ∷ rest) entry is = absurd cc

module _ (sealed : AreSealed) (exact : IsExactFormat) (so_long : AreSoLong) where
  -- A payload that is read as an entry is its encoding.
  pub encoded_so : (payload : List ℕ) (entry : EntryRecord) → AreBytes payload → entry_in payload ≡ Ok entry → payload ≡ entry_format.encode entry
  unfolding entry_in
  encoded_so payload entry bytes is =
      let read = bind_ok (entry_format.read payload) all_read entry is in
      let all = all_read_is read.0.0 read.0.1 entry read.2 in
      let found = exact.found payload read.0.0 read.0.1 bytes read.1 in
      found.1 ∙ ap (λ (rest : List ℕ). entry_format.encode read.0.0 ++ rest) all.1 ∙ append-nil (entry_format.encode read.0.0) ∙ ap entry_format.encode all.0

  is_entry : (payload : List ℕ) (entry : EntryRecord) → AreBytes payload → entry_in payload ≡ Ok entry → IsEntry entry
  unfolding entry_in
  is_entry payload entry bytes is =
      let read = bind_ok (entry_format.read payload) all_read entry is in
      let all = all_read_is read.0.0 read.0.1 entry read.2 in
      subst IsEntry all.0 (exact.found payload read.0.0 read.0.1 bytes read.1).0

  module _ (layout : Layout) (area : Area) (found : FoundEntry) (blocks : List (List ℕ)) (made : IsMadeOf layout area found blocks) where
    abbrev first : Head
    first = made.first

    head_is : IsEntryHead layout.id found.number first
    head_is = entry_head_is layout.id found.number first made.is_head

    first_is : made.record_is.first ≡ first
    first_is = same_Some made.record_is.first first (sym made.record_is.parts.begins ∙ made.begins)

    count_is : length blocks ≡ first.parts
    count_is = made.record_is.parts.count ∙ ap (λ (h : Head). h.parts) first_is

    -- Part p opens, and continues part 0.
    record IsNext (p : ℕ) : Type 0 where
      pub head : Head
      pub opens : Opens (get_or blocks p []) head (payload_in (get_or blocks p []))
      pub continues : Continues first p head

    next : (p : ℕ) → p < length blocks → IsNext p
    next p lower =
        let part = made.record_is.parts.parts p (omega (arith, lower, made.record_is.parts.count)) in
        let same : part.first ≡ first = same_Some part.first first (sym part.begins ∙ made.begins) in
        record {
          head = part.head;
          opens = sealed (get_or blocks p []) part.head part.opens;
          continues = subst (λ (h : Head). Continues h p part.head) same part.continues;
        }

    full : AreFull payload_in blocks
    full = record {
      full = λ p lower. let n = next p (omega (arith, lower)) in n.opens.fills ∙ n.continues.full (omega (arith, lower, count_is));
      no_longer = λ p lower. let n = next p lower in let fills = n.opens.fills in let short = n.opens.ranges.length in omega (arith, fills, short);
    }

    all_bytes : (bs : List (List ℕ)) → All (λ (b : List ℕ). AreBytes (payload_in b)) bs → AreBytes (flat_map payload_in bs)
    all_bytes [] each = All-nil (λ b. b < 256)
    all_bytes (b ∷ bs) each =
        All-append (λ x. x < 256) (payload_in b) (flat_map payload_in bs) (All-head (λ (b : List ℕ). AreBytes (payload_in b)) b bs each) (all_bytes bs (All-tail (λ (b : List ℕ). AreBytes (payload_in b)) b bs each))

    bytes : AreBytes made.payload
    bytes = subst AreBytes (sym made.record_is.joined) (all_bytes blocks (All-from_get_or (λ (b : List ℕ). AreBytes (payload_in b)) blocks [] (λ p lower. (next p lower).opens.bytes)))

    payload_is : made.payload ≡ entry_format.encode found.entry
    payload_is = encoded_so made.payload found.entry bytes made.read

    some : 0 < length blocks
    some = let within : first.part < first.parts = opens_some_parts (get_or blocks 0 []) first made.begins in omega (arith, within, count_is)

    count_by_length : part_count (length made.payload) ≡ length blocks
    count_by_length =
        let long = ap length made.record_is.joined ∙ whole_length payload_in blocks (length blocks - 1) (omega (arith, some)) full in
        let last = next (length blocks - 1) (omega (arith, some)) in
        let fills = last.opens.fills in
        let filled = last.continues.filled in
        let short = last.opens.ranges.length in
        omega (arith, long, fills, filled, short, some)

    head_of : (p : ℕ) (lower : p < length blocks) → (next p lower).head ≡ part_head layout.id found.number found.entry made.payload p
    head_of p lower =
        let n = next p lower in
        let c = n.continues in
        let r = c.record_is in
        let payload_here : payload_in (get_or blocks p []) ≡ part_payload made.payload p = sym (ap (λ (bs : List ℕ). take 3968 (drop (3968 * p) bs)) made.record_is.joined ∙ piece_at payload_in blocks p lower full) in
        let parts : n.head.parts ≡ part_count (length made.payload) = r.parts ∙ sym count_is ∙ sym count_by_length in
        let number : n.head.number ≡ found.number + p = c.number ∙ ap (λ m. m + p) head_is.number_is in
        let whole : n.head.whole ≡ sha256 made.payload = r.whole ∙ sym (made.record_is.digest ∙ ap (λ (h : Head). h.whole) first_is) in
        let long : n.head.length ≡ length (part_payload made.payload p) = sym n.opens.fills ∙ ap length payload_here in
        let kind : n.head.kind ≡ 2 = r.kind ∙ head_is.kind in
        let version : n.head.version ≡ 1 = r.version ∙ head_is.version in
        let id : n.head.id ≡ layout.id = r.id ∙ head_is.id_is in
        let owner : n.head.owner ≡ found.entry.session = r.owner ∙ sym made.session in
        let sequence : n.head.sequence ≡ found.entry.sequence = r.sequence ∙ sym made.sequence in
        λ i. record {
          kind = kind i;
          version = version i;
          part = c.part i;
          parts = parts i;
          id = id i;
          owner = owner i;
          number = number i;
          sequence = sequence i;
          length = long i;
          whole = whole i;
        }

    -- What makes an entry are its sealed blocks.
    pub made_sealed : AreEntryBlocks layout.id found.number found.entry blocks
    made_sealed = record {
      count = sym count_by_length ∙ ap (λ (bs : List ℕ). part_count (length bs)) payload_is ∙ ap part_count (so_long found.entry);
      parts = λ p lower.
          let here : p < length blocks = omega (arith, lower, ap part_count (so_long found.entry), ap (λ (bs : List ℕ). part_count (length bs)) payload_is, count_by_length) in
          let n = next p here in
          let payload_here : payload_in (get_or blocks p []) ≡ part_payload made.payload p = sym (ap (λ (bs : List ℕ). take 3968 (drop (3968 * p) bs)) made.record_is.joined ∙ piece_at payload_in blocks p here full) in
          subst (λ (payload : List ℕ). IsPartBlock layout.id found.number found.entry payload p (get_or blocks p [])) payload_is (record {
            opens = subst (λ (h : Head). Opens (get_or blocks p []) h (part_payload made.payload p)) (head_of p here)
                (subst (λ (payload : List ℕ). Opens (get_or blocks p []) n.head payload) payload_here n.opens);
          });
    }

  -- A whole entry has an encoding, in at most 64 parts, and the number behind the last one is one.
  pub record CanBeWritten (found : FoundEntry) : Type 0 where
    pub entry : IsEntry found.entry
    pub parts : parts_of found.entry ≤ 64
    pub number : found.number + parts_of found.entry < 2 ^ 64

  pub whole_can : (layout : Layout) (area : Area) (dev : ℕ) (found : FoundEntry) → IsWholeOn layout area dev found → CanBeWritten found
  whole_can layout area dev found is =
      let with_blocks = made_of layout area dev found is in
      let made = with_blocks.1 in
      let blocks : List (List ℕ) = with_blocks.0 in
      let count = (made_sealed layout area found blocks made).count in
      let first = next layout area found blocks made 0 (some layout area found blocks made) in
      let most : first.head.parts ≤ 64 = first.opens.ranges.parts in
      let as_many : length blocks ≡ first.head.parts = count_is layout area found blocks made ∙ sym first.continues.record_is.parts in
      let end = (entry_head_is layout.id found.number made.first made.is_head).end in
      record {
        entry = is_entry made.payload found.entry (bytes layout area found blocks made) made.read;
        parts = omega (arith, count, most, as_many);
        number = omega (arith, count, end, count_is layout area found blocks made);
      }

-- An entry has one list of sealed blocks.
pub one_sealed : (id : List ℕ) (number : ℕ) (entry : EntryRecord) (one other : List (List ℕ)) → AreEntryBlocks id number entry one → AreEntryBlocks id number entry other → one ≡ other
one_sealed id number entry one other are again =
    same_lists one other (are.count ∙ sym again.count) (λ p d lower.
    let here : p < parts_of entry = omega (arith, lower, are.count) in
    let there : p < length other = omega (arith, here, again.count) in
    get_or_default one p d [] lower
    ∙ (are.parts p here).opens.encoded ∙ sym (again.parts p here).opens.encoded
    ∙ sym (get_or_default other p d [] there))
