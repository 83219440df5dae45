-- The sizes that all layers share.
use Rattle.std.specs.Prelude.{ℕ}

-- the bytes of a block
abbrev pub block_size : ℕ
block_size = 4096

-- the blocks of a bucket
abbrev pub bucket_blocks : ℕ
bucket_blocks = 16

-- the most bytes of a node's keys as one set, so that the set fits 12 of its bucket's 16 blocks
abbrev pub node_limit : ℕ
node_limit = 47616
