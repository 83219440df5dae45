use Rattle.std.proofs.Common.{◌≡◌, ◌*◌, ℕ, List, length, sum_by, refl, ap, ◌∙◌, subst}
use Rattle.vol_types.specs.Lengths.{key_length_of}
use Rattle.vol_types.specs.Sets.{set_length_of}
use Rattle.record_codec.specs.Sets.{set_format}
use Rattle.node_store.specs.Plans.{ArePartsBefore, block_of_bytes, blocks_for}
use Rattle.node_store.proofs.PlanFacts.{few_bytes, same_fit, some_block, blocks_end, blocks_further, blocks_new, blocks_whole}
use Rattle.node_store.specs.declared.planning.Blocked.{Blocked}
use Rattle.node_store.proofs.PlannedContents.{holds_alone, holds_behind}
use Rattle.node_store.proofs.PlannedReading.{read_alone, read_behind, zeros_behind}
use Rattle.node_store.proofs.planning.plan_set.Goals as goal

pub seal_parts-requires : goal.seal_parts-requires
seal_parts-requires c =
    let set = c.args.set.now in
    let is : length c.as_slice.result.now ≡ set_length_of set.keys = ap length (c.as_slice.ensures ∙ c.in-Ok.ensures.ok) ∙ c.set_lengths.ensures set in
    record { size = few_bytes c.as_slice.result.now c.args.block (set_length_of set.keys) is c.requires.fits }

pub returns-clause-behind : goal.returns-clause-behind
returns-clause-behind c later =
    let set = c.args.set.now in
    let payload = set_format.encode set in
    let same : c.as_slice.result.now ≡ payload = c.as_slice.ensures ∙ c.in-Ok.ensures.ok in
    let sealed = c.in-Ok-seal_parts.parts in
    let long : length payload ≡ set_length_of set.keys = c.set_lengths.ensures set in
    read_behind c.args.layout.now.id c.args.ptr.now.birth c.args.block c.args.sequence payload sealed c.args.ptr.now (record { places = c.in-Ok-copy.places; block = c.args.block; parts = c.in-Ok-fill_bucket.parts })
    c.sealed_blocks_open.ensures.head c.sealed_blocks_open.ensures.payload
    (subst (λ (p : List ℕ). ArePartsBefore c.args.layout.now.id c.args.ptr.now.birth c.args.block c.args.sequence p sealed (blocks_for p)) same c.in-Ok-seal_parts.ensures.parts)
    (subst (λ (p : List ℕ). length sealed ≡ 4096 * blocks_for p) same c.in-Ok-seal_parts.ensures.whole)
    c.in-Ok-copy.ensures refl refl (some_block payload (sum_by (λ key. key_length_of key.value) set.keys) long) (same_fit payload c.args.block (set_length_of set.keys) long c.requires.fits) c.requires.places
    (c.in-Ok-fill_bucket.ensures.further later)

pub returns-clause-alone : goal.returns-clause-alone
returns-clause-alone c first =
    let set = c.args.set.now in
    let payload = set_format.encode set in
    let same : c.as_slice.result.now ≡ payload = c.as_slice.ensures ∙ c.in-Ok.ensures.ok in
    let sealed = c.in-Ok-seal_parts.parts in
    let long : length payload ≡ set_length_of set.keys = c.set_lengths.ensures set in
    read_alone c.args.layout.now.id c.args.ptr.now.birth c.args.block c.args.sequence payload sealed c.args.ptr.now (record { places = c.in-Ok-copy.places; block = c.args.block; parts = c.in-Ok-fill_bucket.parts })
    c.sealed_blocks_open.ensures.head c.sealed_blocks_open.ensures.payload
    (subst (λ (p : List ℕ). ArePartsBefore c.args.layout.now.id c.args.ptr.now.birth c.args.block c.args.sequence p sealed (blocks_for p)) same c.in-Ok-seal_parts.ensures.parts)
    (subst (λ (p : List ℕ). length sealed ≡ 4096 * blocks_for p) same c.in-Ok-seal_parts.ensures.whole)
    c.in-Ok-copy.ensures refl refl (some_block payload (sum_by (λ key. key_length_of key.value) set.keys) long) (same_fit payload c.args.block (set_length_of set.keys) long c.requires.fits) c.requires.places
    first (c.in-Ok-fill_bucket.ensures.new first)

pub returns-clause-new : goal.returns-clause-new
returns-clause-new c first =
    let set = c.args.set.now in
    let blocked : Blocked = record { places = c.in-Ok-copy.places; block = c.args.block; parts = c.in-Ok-fill_bucket.parts } in
    holds_alone c.args.ptr.now set c.args.block c.args.sequence c.sets_are_exact.ensures.only c.in-Ok.ensures.set c.requires.birth c.requires.level c.requires.first c.args.layout.now.id blocked
    (returns-clause-alone c first)

pub returns-clause-more : goal.returns-clause-more
returns-clause-more c later =
    let set = c.args.set.now in
    let blocked : Blocked = record { places = c.in-Ok-copy.places; block = c.args.block; parts = c.in-Ok-fill_bucket.parts } in
    holds_behind c.args.ptr.now set c.args.block c.args.sequence c.sets_are_exact.ensures.only c.in-Ok.ensures.set c.requires.birth c.requires.level c.requires.first c.args.layout.now.id blocked refl
    (returns-clause-behind c later)

pub returns-clause-zeros : goal.returns-clause-zeros
returns-clause-zeros c first part le lt =
    let payload = set_format.encode c.args.set.now in
    let same : c.as_slice.result.now ≡ payload = c.as_slice.ensures ∙ c.in-Ok.ensures.ok in
    let sealed = c.in-Ok-seal_parts.parts in
    ap (λ (bytes : List ℕ). block_of_bytes bytes part) (c.in-Ok-fill_bucket.ensures.new first)
    ∙ zeros_behind sealed (blocks_for payload) part (subst (λ (p : List ℕ). length sealed ≡ 4096 * blocks_for p) same c.in-Ok-seal_parts.ensures.whole) le lt

pub returns-clause-whole : goal.returns-clause-whole
returns-clause-whole c =
    let set = c.args.set.now in
    let payload = set_format.encode set in
    let same : c.as_slice.result.now ≡ payload = c.as_slice.ensures ∙ c.in-Ok.ensures.ok in
    let sealed = c.in-Ok-seal_parts.parts in
    blocks_whole c.args.block (blocks_for payload) sealed c.in-Ok-fill_bucket.parts
    (subst (λ (p : List ℕ). length sealed ≡ 4096 * blocks_for p) same c.in-Ok-seal_parts.ensures.whole)
    (same_fit payload c.args.block (set_length_of set.keys) (c.set_lengths.ensures set) c.requires.fits)
    c.in-Ok-fill_bucket.ensures.new c.in-Ok-fill_bucket.ensures.further

pub returns-clause-ends : goal.returns-clause-ends
returns-clause-ends c =
    let set = c.args.set.now in
    let payload = set_format.encode set in
    let same : c.as_slice.result.now ≡ payload = c.as_slice.ensures ∙ c.in-Ok.ensures.ok in
    let sealed = c.in-Ok-seal_parts.parts in
    blocks_end c.args.block (blocks_for payload) sealed c.in-Ok-fill_bucket.parts
    (subst (λ (p : List ℕ). length sealed ≡ 4096 * blocks_for p) same c.in-Ok-seal_parts.ensures.whole)
    (same_fit payload c.args.block (set_length_of set.keys) (c.set_lengths.ensures set) c.requires.fits)
    c.in-Ok-fill_bucket.ensures.new c.in-Ok-fill_bucket.ensures.further

pub returns-clause-bucket : goal.returns-clause-bucket
returns-clause-bucket c first =
    let set = c.args.set.now in
    let payload = set_format.encode set in
    let same : c.as_slice.result.now ≡ payload = c.as_slice.ensures ∙ c.in-Ok.ensures.ok in
    let sealed = c.in-Ok-seal_parts.parts in
    blocks_new c.args.block (blocks_for payload) sealed c.in-Ok-fill_bucket.parts
    (subst (λ (p : List ℕ). length sealed ≡ 4096 * blocks_for p) same c.in-Ok-seal_parts.ensures.whole)
    (same_fit payload c.args.block (set_length_of set.keys) (c.set_lengths.ensures set) c.requires.fits)
    (c.in-Ok-fill_bucket.ensures.new first)

pub returns-clause-further : goal.returns-clause-further
returns-clause-further c later =
    let set = c.args.set.now in
    let payload = set_format.encode set in
    let same : c.as_slice.result.now ≡ payload = c.as_slice.ensures ∙ c.in-Ok.ensures.ok in
    let sealed = c.in-Ok-seal_parts.parts in
    blocks_further c.args.block (blocks_for payload) sealed c.in-Ok-fill_bucket.parts
    (subst (λ (p : List ℕ). length sealed ≡ 4096 * blocks_for p) same c.in-Ok-seal_parts.ensures.whole)
    (same_fit payload c.args.block (set_length_of set.keys) (c.set_lengths.ensures set) c.requires.fits)
    (c.in-Ok-fill_bucket.ensures.further later)
