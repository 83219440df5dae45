-- How a device in memory changes, by the blocks that it keeps and what was overwritten of them.
use Rattle.std.proofs.Common.{◌≡◌, ℕ, ◌-◌, ◌<◌, ◌≤◌, ◌^◌, List, [], ◌∷◌, ◌++◌, length, map, replicate, get_or, set, ap, ◌∙◌, sym, subst, arith}
use Rattle.std.proofs.lemmas.List.{length-append, length-replicate, length-set, map_push}
use Rattle.std.proofs.lemmas.List.Elements.{All-replicate, All-same, All-set, All-nil, All-push, All-weaker}
use Rattle.dev_model.specs.Disk.{Asked, Disk, IsAtRest, IsBlock, IsDisk, at_rest, after_write, extended, zeros}
use Rattle.dev_model.specs.MemDisks.{IsKept, asked_of, disk_by, restored}
use Rattle.dev_model.specs.declared.disk.Overwritten.{Overwritten}
use Rattle.dev_model.proofs.Overwriting.{none_overwritten, restored_write, restored-append}
use Rattle.dev_model.proofs.SoundDisks.{zeros_are_block, at_rest_is_disk, written_is_disk, extended_is_disk}

-- the disk of which nothing was overwritten is at rest
pub disk_by-at_rest : (blocks : List (List ℕ)) (overwritten : List Overwritten) (shortest : ℕ) → overwritten ≡ [] → shortest ≡ length blocks → disk_by blocks overwritten shortest ≡ at_rest blocks
disk_by-at_rest blocks overwritten shortest none long = ap (λ os. disk_by blocks os shortest) none ∙ ap (λ n. disk_by blocks [] n) long

-- a disk of which nothing was overwritten
pub at_rest_is_kept : (blocks : List (List ℕ)) (overwritten : List Overwritten) (shortest : ℕ) → IsDisk (at_rest blocks) → overwritten ≡ [] → shortest ≡ length blocks → IsKept blocks overwritten shortest
at_rest_is_kept blocks overwritten shortest is none long = record {
  disk = subst (λ (disk : Disk). IsDisk disk) (sym (disk_by-at_rest blocks overwritten shortest none long)) is;
  bytes = All-same (λ (one : Overwritten). IsBlock one.bytes) _ _ none (All-nil (λ (one : Overwritten). IsBlock one.bytes));
  places = All-same (λ (one : Overwritten). one.block < length blocks) _ _ none (All-nil (λ (one : Overwritten). one.block < length blocks));
}

pub blank_is_disk : (blocks : List (List ℕ)) (size : ℕ) → blocks ≡ replicate size zeros → size < 2 ^ 32 → IsDisk (at_rest blocks)
blank_is_disk blocks size are fits =
    at_rest_is_disk blocks (omega (arith, ap length are ∙ length-replicate size zeros, fits)) (All-same IsBlock _ _ are (All-replicate IsBlock size zeros zeros_are_block))

module _ (blocks new_blocks : List (List ℕ)) (overwritten : List Overwritten) (shortest size : ℕ) (is : IsKept blocks overwritten shortest) (longer : new_blocks ≡ blocks ++ replicate (size - length blocks) zeros) where
  pub disk_by-extended : disk_by new_blocks overwritten shortest ≡ extended size (disk_by blocks overwritten shortest)
  disk_by-extended =
      ap (λ bs. disk_by bs overwritten shortest) longer
      ∙ ap (λ settled. record (extended size (disk_by blocks overwritten shortest)) { settled = settled }) (restored-append overwritten blocks (replicate (size - length blocks) zeros) is.places)

  pub extended_is_kept : size < 2 ^ 32 → IsKept new_blocks overwritten shortest
  extended_is_kept fits =
      let more : length blocks ≤ length new_blocks = omega (arith, ap length longer ∙ length-append blocks (replicate (size - length blocks) zeros)) in
      record {
        disk = subst (λ (disk : Disk). IsDisk disk) (sym disk_by-extended) (extended_is_disk (disk_by blocks overwritten shortest) size fits is.disk);
        bytes = is.bytes;
        places = All-weaker (λ (one : Overwritten). one.block < length blocks) (λ (one : Overwritten). one.block < length new_blocks) (λ one within. omega (arith, within, more)) overwritten is.places;
      }

-- the block is pending, and what it held is kept
module _ (blocks : List (List ℕ)) (overwritten : List Overwritten) (shortest : ℕ) (one : Overwritten) (left : List ℕ) (was : one.bytes ≡ get_or blocks one.block one.bytes) where
  pub disk_by-written : disk_by (set blocks one.block left) (overwritten ++ one ∷ []) shortest ≡ after_write one.block one.asked left (disk_by blocks overwritten shortest)
  disk_by-written =
      let new : List (List ℕ) = set blocks one.block left in
      let make : List Asked → List (List ℕ) → Disk = λ asked settled. record { blocks = new; settled = settled; asked = asked; shortest = shortest } in
      ap (λ asked. make asked (restored (overwritten ++ one ∷ []) new)) (map_push asked_of overwritten one)
      ∙ ap (λ settled. make (map asked_of overwritten ++ asked_of one ∷ []) settled) (restored_write overwritten one blocks left was)

  pub written_is_kept : IsKept blocks overwritten shortest → IsBlock left → IsBlock one.bytes → one.block < length blocks → IsKept (set blocks one.block left) (overwritten ++ one ∷ []) shortest
  written_is_kept is is_block was_block within =
      let long : length (set blocks one.block left) ≡ length blocks = length-set blocks one.block left in
      record {
        disk = subst (λ (disk : Disk). IsDisk disk) (sym disk_by-written) (written_is_disk (disk_by blocks overwritten shortest) one.block one.asked left is_block is.disk);
        bytes = All-push (λ (o : Overwritten). IsBlock o.bytes) overwritten one is.bytes was_block;
        places = All-push (λ (o : Overwritten). o.block < length (set blocks one.block left)) overwritten one
            (All-weaker (λ (o : Overwritten). o.block < length blocks) (λ (o : Overwritten). o.block < length (set blocks one.block left)) (λ o there. omega (arith, there, long)) overwritten is.places)
            (omega (arith, within, long));
      }

-- a block that is set while nothing is pending
pub patched_is_kept : (blocks : List (List ℕ)) (overwritten : List Overwritten) (shortest block : ℕ) (bytes : List ℕ) → IsKept blocks overwritten shortest → IsAtRest (disk_by blocks overwritten shortest) → IsBlock bytes → IsKept (set blocks block bytes) overwritten shortest
patched_is_kept blocks overwritten shortest block bytes is rest is_block =
    let long : length (set blocks block bytes) ≡ length blocks = length-set blocks block bytes in
    at_rest_is_kept (set blocks block bytes) overwritten shortest
    (at_rest_is_disk (set blocks block bytes) (omega (arith, long, is.disk.size)) (All-set IsBlock blocks block bytes is_block is.disk.blocks))
    (none_overwritten overwritten rest.writes)
    (rest.extension ∙ sym long)
