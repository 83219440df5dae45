-- The slot of a name fits 63 bits.
use Rattle.std.proofs.Common.{ℕ, ◌<◌, ◌^◌, List, arith, take}
use Rattle.std.specs.Int.{w64, from_be_bytes}
use Rattle.sha2.specs.Sha256.{digest_bytes, final_hash, initial_hash_256, sha256}
use Rattle.vol_digest.specs.Digests.{slot_of}

-- eight bytes of a digest make a number of 64 bits
bytes_fit : (words : List ℕ) → from_be_bytes w64 (take 8 (digest_bytes words 8)) < 2 ^ 64
unfolding digest_bytes
bytes_fit words = omega arith

pub slot_fits : (name : List ℕ) → slot_of name < 2 ^ 63
unfolding sha256
slot_fits name = let fits = bytes_fit (final_hash initial_hash_256 name) in omega (arith, fits)
