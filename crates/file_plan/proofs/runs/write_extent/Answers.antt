use Rattle.std.proofs.Common.{◌+◌, Some, List, ℕ, [], ◌∷◌, length, refl, sym, subst}
use Rattle.vol_types.specs.declared.values.Value.TheVariants as values
use Rattle.file_plan.specs.Runs.{GiveBytes}
use Rattle.file_plan.proofs.Io.{io_reserved, io_stays, io_then, reserved_there}
use Rattle.file_plan.proofs.Written.{one_gives}
use Rattle.file_plan.proofs.runs.write_extent.Goals as goal

pub returns-in_err-pointers-clause-io : goal.returns-in_err-pointers-clause-io
returns-in_err-pointers-clause-io g c = io_stays _ _ c.in_err-pointers.ensures.err

pub write_blocks-requires-clause-reserved : goal.write_blocks-requires-clause-reserved
write_blocks-requires-clause-reserved g c = reserved_there _ _ _ c.in_ok-pointers.ensures.ok

pub returns-clause-holds : goal.returns-clause-holds
returns-clause-holds g c = λ read holds.
    subst (λ (digests : List ℕ). GiveBytes read (record { pos = record { inode = c.args.number; offset = c.args.first + length c.args.blocks.now; snapshot = c.args.id }; value = Some (values.Extent (record { pointers = c.in_ok-pointers.pointers; digests = digests })) } ∷ []) c.args.first c.args.blocks.now)
    (sym c.in_ok-digests.ensures.digests)
    (one_gives read c.args.number c.args.id c.args.first (c.args.first + length c.args.blocks.now) c.in_ok-pointers.pointers c.args.blocks.now (g.V.Contents.io c.room.new.self) (g.V.Contents.io c.write_blocks.new.view) refl c.in_ok-digests.ensures.written holds)

pub returns-in_err-digests-clause-io : goal.returns-in_err-digests-clause-io
returns-in_err-digests-clause-io g c = io_then _ (g.V.Contents.io c.room.new.self) _ (io_reserved _ _ _ c.in_ok-pointers.ensures.ok) c.write_blocks.ensures.io

pub returns-clause-io : goal.returns-clause-io
returns-clause-io g c = io_then _ (g.V.Contents.io c.room.new.self) _ (io_reserved _ _ _ c.in_ok-pointers.ensures.ok) c.write_blocks.ensures.io
