-- The copy that a written block holds.
use Rattle.std.proofs.Common.{◌≡◌, ℕ, ◌^◌, ◌<◌, true, cond, List, length, Option, Some, None, refl, ap, ◌∙◌}
use Rattle.std.proofs.lemmas.Bool.{eq-eqb, lt-ltb}
use Rattle.std.proofs.lemmas.Slice.Eq.{bytes_eq-Decides}
use Rattle.std.specs.Cmp.Derive.{both_true}
use Rattle.std.specs.Prelude.{option_and_then}
use Rattle.sha2.specs.Sha256.{sha256}
use Rattle.vol_types.specs.declared.layout.Layout.{Layout}
use Rattle.sealed_block.specs.declared.heads.Head.{Head}
use Rattle.sealed_block.specs.Opening.{opened, payload_in}
use Rattle.geometry.specs.declared.copies.SuperCopy.{SuperCopy}
use Rattle.geometry.specs.Superblocks.{copy_in, is_copy_head, super_copy, super_head, super_payload}

-- the head of the copy that has this payload
abbrev pub head_over : List ℕ → ℕ → ℕ → ℕ → List ℕ → Head
head_over id dev block sequence payload = record { kind = 1; version = 1; part = 0; parts = 1; id = id; owner = dev; number = block; sequence = sequence; length = length payload; whole = sha256 payload }

-- the copy with this payload, if this is its head
abbrev copy_under : ℕ → List ℕ → Head → Option SuperCopy
copy_under block payload head = cond (is_copy_head block payload head) (Some (record { head = head; payload = payload })) None

is_its_head : (layout : Layout) (dev block sequence : ℕ) → sequence < 2 ^ 63 → is_copy_head block (super_payload layout dev) (super_head layout dev block sequence) ≡ true
is_its_head layout dev block sequence counts =
    both_true (both_true (both_true {s = true} refl (eq-eqb block block refl)) (lt-ltb sequence (2 ^ 63) counts)) ((bytes_eq-Decides (sha256 (super_payload layout dev)) (sha256 (super_payload layout dev))).1 refl)

-- A block with the head and the payload of a copy holds this copy.
pub holds_itself : (layout : Layout) (dev block sequence : ℕ) (bytes : List ℕ) → sequence < 2 ^ 63 → opened bytes ≡ Some (super_head layout dev block sequence) → payload_in bytes ≡ super_payload layout dev → copy_in block bytes ≡ Some (super_copy layout dev block sequence)
unfolding copy_in
holds_itself layout dev block sequence bytes counts opens payload =
    ap (option_and_then (copy_under block (payload_in bytes))) opens
    ∙ ap (λ p. copy_under block p (super_head layout dev block sequence)) payload
    ∙ ap (λ b. cond {A = Option SuperCopy} b (Some (super_copy layout dev block sequence)) None) (is_its_head layout dev block sequence counts)
