use Rattle.std.proofs.Common.{sym, ap, ◌∙◌}
use Rattle.forest_ops.specs.declared.operation.Op.TheVariants.{Mkdir, Mkfile, Write, Trunc, Read, Ls, Stat, Link, Unlink, Rmdir, Rename, Subvol, Snap, Delsub, Fsync}
use Rattle.forest_ops.proofs.operation.OpDuplicate.copy.Goals as goal

pub returns-in_ok-copy-in-Mkdir : goal.returns-in_ok-copy-in-Mkdir
returns-in_ok-copy-in-Mkdir c = ap Mkdir c.in_ok-copy-in-Mkdir.ensures ∙ sym c.in-Mkdir.is

pub returns-in_ok-copy-in-Mkfile : goal.returns-in_ok-copy-in-Mkfile
returns-in_ok-copy-in-Mkfile c = ap Mkfile c.in_ok-copy-in-Mkfile.ensures ∙ sym c.in-Mkfile.is

pub returns-in_ok-copy-in-Trunc : goal.returns-in_ok-copy-in-Trunc
returns-in_ok-copy-in-Trunc c = ap (λ path. Trunc path c.in-Trunc.size) c.in_ok-copy-in-Trunc.ensures ∙ sym c.in-Trunc.is

pub returns-in_ok-copy-in-Read : goal.returns-in_ok-copy-in-Read
returns-in_ok-copy-in-Read c = ap (λ path. Read path c.in-Read.offset c.in-Read.len) c.in_ok-copy-in-Read.ensures ∙ sym c.in-Read.is

pub returns-in_ok-copy-in-Ls : goal.returns-in_ok-copy-in-Ls
returns-in_ok-copy-in-Ls c = ap Ls c.in_ok-copy-in-Ls.ensures ∙ sym c.in-Ls.is

pub returns-in_ok-copy-in-Stat : goal.returns-in_ok-copy-in-Stat
returns-in_ok-copy-in-Stat c = ap Stat c.in_ok-copy-in-Stat.ensures ∙ sym c.in-Stat.is

pub returns-in_ok-copy-in-Unlink : goal.returns-in_ok-copy-in-Unlink
returns-in_ok-copy-in-Unlink c = ap Unlink c.in_ok-copy-in-Unlink.ensures ∙ sym c.in-Unlink.is

pub returns-in_ok-copy-in-Rmdir : goal.returns-in_ok-copy-in-Rmdir
returns-in_ok-copy-in-Rmdir c = ap Rmdir c.in_ok-copy-in-Rmdir.ensures ∙ sym c.in-Rmdir.is

pub returns-in_ok-copy-in-Subvol : goal.returns-in_ok-copy-in-Subvol
returns-in_ok-copy-in-Subvol c = ap Subvol c.in_ok-copy-in-Subvol.ensures ∙ sym c.in-Subvol.is

pub returns-in_ok-copy-in-Delsub : goal.returns-in_ok-copy-in-Delsub
returns-in_ok-copy-in-Delsub c = ap Delsub c.in_ok-copy-in-Delsub.ensures ∙ sym c.in-Delsub.is

pub returns-in_ok-copy-in-Fsync : goal.returns-in_ok-copy-in-Fsync
returns-in_ok-copy-in-Fsync c = ap Fsync c.in_ok-copy-in-Fsync.ensures ∙ sym c.in-Fsync.is

pub returns-in_ok-path-in-Write : goal.returns-in_ok-path-in-Write
returns-in_ok-path-in-Write c = (λ i. Write (c.in_ok-path-in-Write.ensures.one i) c.in-Write.offset (c.in_ok-path-in-Write.ensures.other i)) ∙ sym c.in-Write.is

pub returns-in_ok-from-in-Link : goal.returns-in_ok-from-in-Link
returns-in_ok-from-in-Link c = (λ i. Link (c.in_ok-from-in-Link.ensures.one i) (c.in_ok-from-in-Link.ensures.other i)) ∙ sym c.in-Link.is

pub returns-in_ok-from-in-Rename : goal.returns-in_ok-from-in-Rename
returns-in_ok-from-in-Rename c = (λ i. Rename (c.in_ok-from-in-Rename.ensures.one i) (c.in_ok-from-in-Rename.ensures.other i)) ∙ sym c.in-Rename.is

pub returns-in_ok-source-in-Snap : goal.returns-in_ok-source-in-Snap
returns-in_ok-source-in-Snap c = (λ i. Snap (c.in_ok-source-in-Snap.ensures.one i) (c.in_ok-source-in-Snap.ensures.other i) c.in-Snap.locked) ∙ sym c.in-Snap.is
