-- What metadata devices get before their superblocks, block by block.
use Rattle.std.proofs.Common.{◌≡◌, ℕ, ◌+◌, ◌-◌, ◌/◌, ◌%◌, ◌<◌, ◌≤◌, Some, None, refl, sym, subst, arith}
use Rattle.std.specs.Prelude.{slice_index_or}
use Rattle.std.proofs.lemmas.Bool.{ne_eqb, lt-ltb, le-ltb, le-leb}
use Rattle.dev_model.specs.Disk.{zeros}
use Rattle.vol_types.specs.declared.layout.Layout.{Layout}
use Rattle.geometry.specs.Sessions.{session_block}
use Rattle.node_store.specs.Plans.{part_bytes}
use Rattle.vol_format.specs.declared.fresh.FreshBlocks.{FreshBlocks}
use Rattle.vol_format.specs.Fresh.{no_bucket}
use Rattle.vol_format.specs.Formatting.{in_roots, prepared}

-- Nothing stands in block 8.
pub prepared_eight : (layout : Layout) (fresh : FreshBlocks) (block : ℕ) → block ≡ 8 → prepared layout fresh block ≡ None
prepared_eight layout fresh block is = subst (λ n. prepared layout fresh n ≡ None) (sym is) (rw (lt-ltb 8 (16 + layout.journal) (omega arith)) refl)

-- The session stands in block 5.
pub prepared_five : (layout : Layout) (fresh : FreshBlocks) (block : ℕ) → block ≡ 5 → prepared layout fresh block ≡ Some (session_block layout.id 1)
prepared_five layout fresh block is = subst (λ n. prepared layout fresh n ≡ Some (session_block layout.id 1)) (sym is) (rw (lt-ltb 5 (16 + layout.journal) (omega arith)) refl)

-- The first entry stands in block 16.
pub prepared_entry : (layout : Layout) (fresh : FreshBlocks) → 0 < layout.journal → prepared layout fresh 16 ≡ Some fresh.entry
prepared_entry layout fresh some = rw (lt-ltb 16 (16 + layout.journal) (omega (arith, some))) refl

-- Zeros stand in the others of the area.
pub prepared_other : (layout : Layout) (fresh : FreshBlocks) (block : ℕ) → 1 ≤ block → block < 16 + layout.journal → ¬ (block ≡ 8) → ¬ (block ≡ 5) → ¬ (block ≡ 16) → prepared layout fresh block ≡ Some zeros
prepared_other layout fresh block first last eight five sixteen = rw (lt-ltb block (16 + layout.journal) last, ne_eqb block 5 five, ne_eqb block 16 sixteen, le-leb 1 block first, ne_eqb block 8 eight) refl

-- The buckets of the roots stand behind the area.
pub prepared_behind : (layout : Layout) (fresh : FreshBlocks) (block : ℕ) → 16 + layout.journal ≤ block → prepared layout fresh block ≡ in_roots fresh (block - (16 + layout.journal))
prepared_behind layout fresh block behind = rw (le-ltb block (16 + layout.journal) behind) refl

pub prepared_root : (layout : Layout) (fresh : FreshBlocks) (block n : ℕ) → block ≡ 16 + layout.journal + n → n < 144 → prepared layout fresh block ≡ Some (part_bytes (slice_index_or fresh.roots (n / 16) no_bucket) (n % 16))
prepared_root layout fresh block n is within =
    let rest : block - (16 + layout.journal) ≡ n = omega (arith, is) in
    rw (le-ltb block (16 + layout.journal) (omega (arith, is)), rest, lt-ltb n 144 within) refl

-- Nothing stands in block 0.
pub prepared_none : (layout : Layout) (fresh : FreshBlocks) (block : ℕ) → block < 1 → prepared layout fresh block ≡ None
prepared_none layout fresh block first = subst (λ n. prepared layout fresh n ≡ None) (let e : 0 ≡ block = omega (arith, first) in e) (rw (lt-ltb 0 (16 + layout.journal) (omega arith)) refl)

-- Nothing stands after the roots.
pub prepared_past : (layout : Layout) (fresh : FreshBlocks) (block : ℕ) → 160 + layout.journal ≤ block → prepared layout fresh block ≡ None
prepared_past layout fresh block past = rw (le-ltb block (16 + layout.journal) (omega (arith, past)), le-ltb (block - (16 + layout.journal)) 144 (omega (arith, past))) refl
