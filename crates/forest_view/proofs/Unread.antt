-- Where no block is read, each byte of a file is zero.
use Rattle.std.proofs.Common.{◌≡◌, ℕ, ◌/◌, ◌%◌, Option, Some, None, refl, sym, ap, ◌∙◌}
use Rattle.std.specs.Prelude.{option_and_then, option_map, replicate}
use Rattle.std.proofs.lemmas.List.{get_or-replicate, length-replicate}
use Rattle.std.proofs.lemmas.List.FromFn.{fill_by_all}
use Rattle.vol_types.specs.KeyMaps.{KeyMap}
use Rattle.vol_types.specs.Limits.{block_size}
use Rattle.key_meaning.specs.Blocks.{Block, block_in}
use Rattle.key_meaning.specs.Forest.{byte_at, byte_in, content_of}
use Rattle.forest_view.specs.Meant.{no_blocks}

no_bytes : (shown : Option Block) → option_and_then (λ (block : Block). no_blocks block.places block.digest) shown ≡ None
no_bytes None = refl
no_bytes (Some block) = refl

pub unread_byte : (keys : KeyMap) (id file index : ℕ) → byte_in keys no_blocks id file index ≡ 0
unread_byte keys id file index = ap (λ o. byte_at o (index % block_size)) (no_bytes (block_in keys id file (index / block_size)))

-- So a file has its size in zeros.
pub unread_content : (keys : KeyMap) (id file size : ℕ) → replicate size 0 ≡ content_of keys no_blocks id file size
unread_content keys id file size = fill_by_all (byte_in keys no_blocks id file) (replicate size 0) size 0 (length-replicate size 0) (λ k lt. get_or-replicate size k 0 0 lt ∙ sym (unread_byte keys id file k))

pub unread_file : (keys : KeyMap) (id file : ℕ) (size : Option ℕ) → option_map (λ n. replicate n 0) size ≡ option_map (content_of keys no_blocks id file) size
unread_file keys id file None = refl
unread_file keys id file (Some size) = ap Some (unread_content keys id file size)
