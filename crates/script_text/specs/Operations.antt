-- How an operation is written: its verb, and the arguments behind it. No operation is a barrier.
use Rattle.std.specs.Prelude.{Bool, List, [], ◌∷◌, Option, Some, None, if◌then◌else◌}
use Rattle.forest_ops.specs.declared.operation.Op.{Op}
use Rattle.forest_ops.specs.declared.operation.Op.TheVariants as op
use Rattle.script_text.specs.Arguments.{Argument}
use Rattle.script_text.specs.Arguments.Kind.{PathWord, NameWord, NumberWord, LengthWord, BytesWord, LockedWord}
use Rattle.script_text.specs.declared.verb.Verb.{Verb}
use Rattle.script_text.specs.declared.verb.Verb.TheVariants.{Mkdir, Mkfile, Write, Trunc, Read, Ls, Stat, Link, Unlink, Rmdir, Rename, Subvol, Snap, Delsub, Subs, Sync, Fsync, Sweep, Usage, Barrier}

abbrev pub verb_of : Option Op → Verb
verb_of None = Barrier
verb_of (Some (op.Mkdir path)) = Mkdir
verb_of (Some (op.Mkfile path)) = Mkfile
verb_of (Some (op.Write path offset bytes)) = Write
verb_of (Some (op.Trunc path size)) = Trunc
verb_of (Some (op.Read path offset len)) = Read
verb_of (Some (op.Ls path)) = Ls
verb_of (Some (op.Stat path)) = Stat
verb_of (Some (op.Link from to)) = Link
verb_of (Some (op.Unlink path)) = Unlink
verb_of (Some (op.Rmdir path)) = Rmdir
verb_of (Some (op.Rename from to)) = Rename
verb_of (Some (op.Subvol name)) = Subvol
verb_of (Some (op.Snap source copy locked)) = Snap
verb_of (Some (op.Delsub name)) = Delsub
verb_of (Some op.Subs) = Subs
verb_of (Some op.Sync) = Sync
verb_of (Some (op.Fsync path)) = Fsync
verb_of (Some (op.Sweep steps)) = Sweep
verb_of (Some op.Usage) = Usage

-- `ro` stands behind a copy that may only be read
abbrev pub locked_word : Bool → List Argument
locked_word locked = if locked then (LockedWord, tt) ∷ [] else []

abbrev pub arguments_of : Option Op → List Argument
arguments_of None = []
arguments_of (Some (op.Mkdir path)) = (PathWord, path) ∷ []
arguments_of (Some (op.Mkfile path)) = (PathWord, path) ∷ []
arguments_of (Some (op.Write path offset bytes)) = (PathWord, path) ∷ (NumberWord, offset) ∷ (BytesWord, bytes) ∷ []
arguments_of (Some (op.Trunc path size)) = (PathWord, path) ∷ (NumberWord, size) ∷ []
arguments_of (Some (op.Read path offset len)) = (PathWord, path) ∷ (NumberWord, offset) ∷ (LengthWord, len) ∷ []
arguments_of (Some (op.Ls path)) = (PathWord, path) ∷ []
arguments_of (Some (op.Stat path)) = (PathWord, path) ∷ []
arguments_of (Some (op.Link from to)) = (PathWord, from) ∷ (PathWord, to) ∷ []
arguments_of (Some (op.Unlink path)) = (PathWord, path) ∷ []
arguments_of (Some (op.Rmdir path)) = (PathWord, path) ∷ []
arguments_of (Some (op.Rename from to)) = (PathWord, from) ∷ (PathWord, to) ∷ []
arguments_of (Some (op.Subvol name)) = (NameWord, name) ∷ []
arguments_of (Some (op.Snap source copy locked)) = (NameWord, source) ∷ (NameWord, copy) ∷ locked_word locked
arguments_of (Some (op.Delsub name)) = (NameWord, name) ∷ []
arguments_of (Some op.Subs) = []
arguments_of (Some op.Sync) = []
arguments_of (Some (op.Fsync path)) = (PathWord, path) ∷ []
arguments_of (Some (op.Sweep steps)) = (NumberWord, steps) ∷ []
arguments_of (Some op.Usage) = []
