-- An entry whose blocks stand on every metadata device is whole.
use Rattle.std.proofs.Common.{◌≡◌, ℕ, zero, suc, ◌+◌, ◌*◌, ◌^◌, ◌<◌, ◌≤◌, true, cond, List, [], length, take, get_or, Option, Some, None, Result, Ok, refl, ap, ◌∙◌, sym, subst, arith}
use Rattle.std.proofs.lemmas.List.{take_all, append-nil}
use Rattle.std.proofs.lemmas.Bool.{eq-eqb, lt-ltb}
use Rattle.std.proofs.lemmas.Slice.Eq.{bytes_eq-Decides}
use Rattle.std.specs.Cmp.Derive.{both_true}
use Rattle.std.specs.Prelude.{option_and_then, option_map}
use Rattle.std.specs.Result.{result_ok}
use Rattle.sha2.specs.Sha256.{sha256}
use Rattle.sealed_block.specs.declared.heads.Head.{Head}
use Rattle.sealed_block.specs.Blocks.{Opens}
use Rattle.sealed_block.specs.Opening.{opened, payload_in}
use Rattle.key_codec.specs.Exact.{IsExactBut}
use Rattle.key_codec.specs.Formats.{◌>>=◌}
use Rattle.record_codec.specs.declared.entries.EntryRecord.{EntryRecord}
use Rattle.record_codec.specs.declared.fault.RecordFault.{RecordFault}
use Rattle.record_codec.specs.declared.fault.RecordFault.TheVariants.{Short}
use Rattle.record_codec.specs.Entries.{IsEntry, entry_format, entry_in}
use Rattle.record_codec.specs.Sets.{all_read}
use Rattle.vol_types.specs.declared.layout.Layout.{Layout}
use Rattle.journal_ring.specs.declared.found.FoundEntry.{FoundEntry}
use Rattle.journal_ring.specs.Parts.{Area, joined, numbered, part_in, part_of, part_on, with_next}
use Rattle.journal_ring.specs.Entries.{agreeing, begun_by, entry_on, entry_under, found_at, is_entry_head}
use Rattle.journal_ring.specs.EntryBlocks.{ArePartBlocks, part_count, part_head, part_payload}
use Rattle.journal_ring.proofs.Takes.{all_parts, first_of_all, parts_continue, take_then}
use Rattle.journal_ring.specs.PartLaws.{part_opens}
use Rattle.sealed_block.specs.Parts.{continues-true}

-- What an entry is encoded as is read as it.
pub encoded_is_read : IsExactBut Short IsEntry entry_format → (entry : EntryRecord) → IsEntry entry → entry_in (entry_format.encode entry) ≡ Ok entry
unfolding entry_in
encoded_is_read exact entry is =
    let read : entry_format.read (entry_format.encode entry) ≡ Ok (entry, []) =
    subst (λ (bytes : List ℕ). entry_format.read bytes ≡ Ok (entry, [])) (append-nil (entry_format.encode entry)) (exact.only entry [] is) in
    ap (λ (r : Result (EntryRecord × List ℕ) RecordFault). r >>= all_read) read

-- What is said of sealed blocks: they open, with their heads and payloads.
pub record SealedOpen : Type 0 where
  pub head : (block : List ℕ) (h : Head) (payload : List ℕ) → Opens block h payload → opened block ≡ Some h
  pub payload : (block : List ℕ) (h : Head) (payload : List ℕ) → Opens block h payload → payload_in block ≡ payload

module _ (sealed : SealedOpen) (layout : Layout) (area : Area) (number : ℕ) (entry : EntryRecord) (payload : List ℕ) (blocks : List (List ℕ)) (are : ArePartBlocks layout.id number entry payload blocks (part_count (length payload)))
    (stand : (dev p : ℕ) → dev < layout.metadata_replicas → p < part_count (length payload) → numbered layout area dev (number + p) ≡ Some (get_or blocks p [])) (dev : ℕ) (mirror : dev < layout.metadata_replicas) where
  abbrev pub first : Head
  first = part_head layout.id number entry payload 0

  -- Each device has each part,
  each_has : (p d : ℕ) → d < layout.metadata_replicas → p < part_count (length payload) → part_on layout area first p d ≡ Some (part_payload payload p)
  each_has p d within lower =
      let block : List ℕ = get_or blocks p [] in
      let there : numbered layout area d (first.number + p) ≡ Some block = subst (λ n. numbered layout area d (n + p) ≡ Some block) (let e : number ≡ number + 0 = omega arith in e) (stand d p within lower) in
      let opens = (are p lower).opens in
      ap (option_and_then (part_in first p)) there
      ∙ part_opens first p block (part_head layout.id number entry payload p) (sealed.head block _ _ opens) (continues-true first p _ (parts_continue layout.id number entry payload p lower))
      ∙ ap Some (sealed.payload block _ _ opens)

  -- so each part is taken,
  each_part : (p : ℕ) → p < part_count (length payload) → part_of layout area dev first p ≡ Some (part_payload payload p)
  each_part zero lower = each_has 0 dev mirror lower
  each_part (suc p) lower = first_of_all (part_on layout area first (suc p)) (part_payload payload (suc p)) layout.metadata_replicas (omega (arith, mirror)) (λ d within. each_has (suc p) d within lower)

  -- and what is joined is the payload.
  joined_so_far : (count : ℕ) → count ≤ part_count (length payload) → joined layout area dev first count ≡ Some (take (3968 * count) payload)
  joined_so_far zero within = refl
  joined_so_far (suc p) within =
      ap (λ o. with_next o (part_of layout area dev first p)) (joined_so_far p (omega (arith, within)))
      ∙ ap (with_next (Some (take (3968 * p) payload))) (each_part p (omega (arith, within)))
      ∙ ap Some (sym (take_then payload (3968 * p) 3968) ∙ ap (λ n. take n payload) (let e : 3968 * p + 3968 ≡ 3968 * suc p = omega arith in e))

  joined_all : joined layout area dev first (part_count (length payload)) ≡ Some payload
  joined_all = joined_so_far (part_count (length payload)) (omega arith) ∙ ap Some (take_all (3968 * part_count (length payload)) payload (all_parts (length payload)))

  module _ (exact : IsExactBut Short IsEntry entry_format) (is : IsEntry entry) (encoded : payload ≡ entry_format.encode entry) (some : 0 < part_count (length payload)) (end : number + part_count (length payload) < 2 ^ 64) where
    digest_is : entry_under first payload ≡ agreeing first (result_ok (entry_in payload))
    digest_is = ap (λ b. cond {A = Option EntryRecord} b (agreeing first (result_ok (entry_in payload))) None) ((bytes_eq-Decides (sha256 payload) (sha256 payload)).1 refl)

    is_read : entry_under first payload ≡ Some entry
    is_read =
        digest_is
        ∙ ap (λ r. agreeing first (result_ok r)) (ap entry_in encoded ∙ encoded_is_read exact entry is)
        ∙ ap (λ b. cond {A = Option EntryRecord} b (Some entry) None) (both_true (eq-eqb entry.sequence entry.sequence refl) (eq-eqb entry.session entry.session refl))

    is_head : is_entry_head layout.id number first ≡ true
    is_head = both_true (both_true (both_true {s = true} refl ((bytes_eq-Decides layout.id layout.id).1 refl)) (eq-eqb first.number number (let e : number + 0 ≡ number = omega arith in e))) (lt-ltb (number + part_count (length payload)) (2 ^ 64) end)

    -- The entry is whole, from part 0 on this device.
    pub stands_whole : entry_on layout area dev number ≡ Some (found_at number first entry)
    unfolding entry_on
    stands_whole =
        let block : List ℕ = get_or blocks 0 [] in
        let there : numbered layout area dev number ≡ Some block = subst (λ n. numbered layout area dev n ≡ Some block) (let e : number + 0 ≡ number = omega arith in e) (stand dev 0 mirror some) in
        let opens : opened block ≡ Some first = sealed.head block _ _ (are 0 some).opens in
        ap (λ o. option_and_then (begun_by layout area dev number) (option_and_then opened o)) there
        ∙ ap (option_and_then (begun_by layout area dev number)) opens
        ∙ ap (λ b. cond {A = Option FoundEntry} b (option_map (found_at number first) (option_and_then (entry_under first) (joined layout area dev first (part_count (length payload))))) None) is_head
        ∙ ap (λ o. option_map (found_at number first) (option_and_then (entry_under first) o)) joined_all
        ∙ ap (option_map (found_at number first)) is_read
