-- The verbs, and what may stand behind each.
use Rattle.std.specs.Prelude.{ℕ, Bool, true, false, List, [], ◌∷◌, codes}
use Rattle.script_text.specs.Arguments.{Kind}
use Rattle.script_text.specs.Arguments.Kind.{PathWord, NameWord, NumberWord, LengthWord, BytesWord, LockedWord}
use Rattle.script_text.specs.declared.verb.Verb.{Verb}
use Rattle.script_text.specs.declared.verb.Verb.TheVariants.{Mkdir, Mkfile, Write, Trunc, Read, Ls, Stat, Link, Unlink, Rmdir, Rename, Subvol, Snap, Delsub, Subs, Sync, Fsync, Sweep, Usage, Barrier}

abbrev pub verb_word : Verb → List ℕ
verb_word Mkdir = codes "mkdir"
verb_word Mkfile = codes "mkfile"
verb_word Write = codes "write"
verb_word Trunc = codes "trunc"
verb_word Read = codes "read"
verb_word Ls = codes "ls"
verb_word Stat = codes "stat"
verb_word Link = codes "link"
verb_word Unlink = codes "unlink"
verb_word Rmdir = codes "rmdir"
verb_word Rename = codes "rename"
verb_word Subvol = codes "subvol"
verb_word Snap = codes "snap"
verb_word Delsub = codes "delsub"
verb_word Subs = codes "subs"
verb_word Sync = codes "sync"
verb_word Fsync = codes "fsync"
verb_word Sweep = codes "sweep"
verb_word Usage = codes "usage"
verb_word Barrier = codes "barrier"

-- the program runs the verb; each of the others is no verb of a script yet
abbrev pub is_supported : Verb → Bool
is_supported Write = false
is_supported Trunc = false
is_supported Read = false
is_supported Sweep = false
is_supported Usage = false
is_supported _ = true

-- what the words behind the verb have to be, in their order; one list for each of its forms
abbrev pub forms : Verb → List (List Kind)
forms Mkdir = (PathWord ∷ []) ∷ []
forms Mkfile = (PathWord ∷ []) ∷ []
forms Write = (PathWord ∷ NumberWord ∷ BytesWord ∷ []) ∷ []
forms Trunc = (PathWord ∷ NumberWord ∷ []) ∷ []
forms Read = (PathWord ∷ NumberWord ∷ LengthWord ∷ []) ∷ []
forms Ls = (PathWord ∷ []) ∷ []
forms Stat = (PathWord ∷ []) ∷ []
forms Link = (PathWord ∷ PathWord ∷ []) ∷ []
forms Unlink = (PathWord ∷ []) ∷ []
forms Rmdir = (PathWord ∷ []) ∷ []
forms Rename = (PathWord ∷ PathWord ∷ []) ∷ []
forms Subvol = (NameWord ∷ []) ∷ []
forms Snap = (NameWord ∷ NameWord ∷ []) ∷ (NameWord ∷ NameWord ∷ LockedWord ∷ []) ∷ []
forms Delsub = (NameWord ∷ []) ∷ []
forms Subs = [] ∷ []
forms Sync = [] ∷ []
forms Fsync = (PathWord ∷ []) ∷ []
forms Sweep = (NumberWord ∷ []) ∷ []
forms Usage = [] ∷ []
forms Barrier = [] ∷ []
