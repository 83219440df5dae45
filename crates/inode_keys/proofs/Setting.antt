-- An inode as the value that an id sees.
use Rattle.std.proofs.Common.{◌≡◌, ℕ, Option, Some, None, refl, ap, arith}
use Rattle.std.specs.Prelude.{◌≢◌, IfOk, IfSome, option_map}
use Rattle.std.specs.declared.result.Result.{Result}
use Rattle.std.specs.declared.result.Result.TheVariants.{Ok, Err}
use Rattle.key_meaning.specs.Visible.{shown}
use Rattle.key_view.specs.Changes.{own_update}
use Rattle.vol_types.specs.Btrees.{btree_code}
use Rattle.vol_types.specs.Ranges.{IsInode}
use Rattle.vol_types.specs.Standing.{IsUpdate}
use Rattle.vol_types.specs.declared.positions.Btree.TheVariants.{Inodes, Snapshots}
use Rattle.vol_types.specs.declared.values.Inode.{Inode}
use Rattle.vol_types.specs.declared.values.Value.TheVariants as values

-- what a result has to say of its value
pub carried : {X E : Type 0} (result : Result X E) (P Q : X → Type 0) → ((x : X) → P x → Q x) → IfOk result P → IfOk result Q
carried (Ok x) P Q step holds = step x holds
carried (Err e) P Q step holds = tt

-- an inode is no whiteout
pub inode_shows : (inode : Option Inode) → shown (option_map values.Inode inode) ≡ option_map values.Inode inode
inode_shows None = refl
inode_shows (Some inode) = refl

-- its update may be made
pub inode_fits : (number id : ℕ) (inode : Option Inode) → IfSome inode IsInode → IsUpdate (own_update Inodes 0 number id (option_map values.Inode inode))
inode_fits number id None fits = record { stands = tt; in_range = tt }
inode_fits number id (Some inode) fits = record { stands = record { in_leaf = λ leaf. refl; above = λ up. absurd (omega (arith, up)) }; in_range = fits }

-- and so may that of a whiteout
pub whiteout_fits : (number id : ℕ) → IsUpdate (own_update Inodes 0 number id (Some values.White))
whiteout_fits number id = record { stands = record { in_leaf = λ leaf. refl; above = λ up. absurd (omega (arith, up)) }; in_range = tt }

-- inodes are no snapshot ids
pub not_ids : Inodes ≢ Snapshots
not_ids same = absurd (omega (arith, ap btree_code same))
