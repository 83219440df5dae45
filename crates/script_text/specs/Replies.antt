-- The text of replies, of the faults of lines, and of the end.
use Rattle.std.specs.Prelude.{ℕ, ◌/◌, ◌%◌, true, ◌==◌, List, [], ◌∷◌, ◌++◌, codes, if◌then◌else◌}
use Rattle.std.specs.List.{flat_map}
use Rattle.std.specs.Fmt.{decimal, digit_glyph}
use Rattle.hex.specs.Hex.{encode_lower}
use Rattle.vol_types.specs.declared.FlaggedName.{FlaggedName}
use Rattle.forest_ops.specs.declared.operation.Cause.{Cause}
use Rattle.forest_ops.specs.declared.operation.Cause.TheVariants.{BadPath, Cross, NoSubvolume, NotFound, NotDir, IsDir, ReadOnly, Exists, NotEmpty, Loop, Crowded, LinksFull, TooBig, IdsSpent, TooMany}
use Rattle.forest_ops.specs.declared.operation.Reply.{Reply}
use Rattle.forest_ops.specs.declared.operation.Reply.TheVariants.{Okay, More, Synced, Content, List as Listed, File, Dir, SubNames, Used, Refused, NoSpace, DeviceFault, DataLost, Halted, Spent, NoMemory}
use Rattle.script_text.specs.Bytes.{is_plain}
use Rattle.script_text.specs.declared.reading.LineFault.{LineFault}
use Rattle.script_text.specs.declared.reading.LineFault.TheVariants.{BadVerb, BadArgs, BadPath as BadWord, BadClient}

-- a byte of a name as it is printed: itself where it is plain, else `%` and its two upper-case hex digits
abbrev pub escaped_byte : ℕ → List ℕ
escaped_byte byte = if is_plain byte then byte ∷ [] else 37 ∷ digit_glyph true (byte / 16) ∷ digit_glyph true (byte % 16) ∷ []

-- a name as it is printed
abbrev pub escaped : List ℕ → List ℕ
escaped name = flat_map escaped_byte name

-- a name of a directory stands after a space, and has `/` behind it where it is a directory's
abbrev pub listed_name : FlaggedName → List ℕ
listed_name entry = codes " " ++ escaped entry.name ++ (if entry.flag == 2 then codes "/" else [])

-- a name of a subvolume stands after a space and `rw:`, or `ro:` where it may only be read
abbrev pub sub_name : FlaggedName → List ℕ
sub_name entry = (if entry.flag == 1 then codes " ro:" else codes " rw:") ++ escaped entry.name

-- bytes of a file stand after a space, each as two lower-case hex digits; no byte is no text
abbrev pub content_text : List ℕ → List ℕ
content_text [] = []
content_text (byte ∷ bytes) = codes " " ++ encode_lower (byte ∷ bytes)

-- the word for a cause
abbrev pub cause_word : Cause → List ℕ
cause_word BadPath = codes "bad-path"
cause_word Cross = codes "cross"
cause_word NoSubvolume = codes "no-subvolume"
cause_word NotFound = codes "not-found"
cause_word NotDir = codes "not-dir"
cause_word IsDir = codes "is-dir"
cause_word ReadOnly = codes "read-only"
cause_word Exists = codes "exists"
cause_word NotEmpty = codes "not-empty"
cause_word Loop = codes "loop"
cause_word Crowded = codes "crowded"
cause_word LinksFull = codes "links-full"
cause_word TooBig = codes "too-big"
cause_word IdsSpent = codes "ids-spent"
cause_word TooMany = codes "too-many"

-- the word for the fault of a line
abbrev pub word_of_fault : LineFault → List ℕ
word_of_fault BadVerb = codes "bad-verb"
word_of_fault BadArgs = codes "bad-args"
word_of_fault BadWord = codes "bad-path"
word_of_fault BadClient = codes "bad-client"

-- the text of a reply
abbrev pub reply_text : Reply → List ℕ
reply_text Okay = codes "ok"
reply_text (More size) = codes "more " ++ decimal size
reply_text (Synced count) = codes "ok " ++ decimal count
reply_text (Content bytes) = codes "data" ++ content_text bytes
reply_text (Listed names) = codes "list" ++ flat_map listed_name names
reply_text (File number size links) = codes "file " ++ decimal number ++ codes " " ++ decimal size ++ codes " " ++ decimal links
reply_text (Dir number entries) = codes "dir " ++ decimal number ++ codes " " ++ decimal entries
reply_text (SubNames names) = codes "subs" ++ flat_map sub_name names
reply_text (Used blocks) = codes "usage " ++ decimal blocks
reply_text (Refused cause) = codes "err " ++ cause_word cause
reply_text (NoSpace short) = codes "err no-space need " ++ decimal short.need
reply_text (DeviceFault dev) = codes "err device " ++ decimal dev
reply_text (DataLost lost) = codes "err data-lost " ++ decimal lost.block
reply_text (Halted dev tick) = codes "err halted " ++ decimal dev
reply_text Spent = codes "err spent"
reply_text NoMemory = codes "err no-memory"

-- the line of a reply: the client, the number of the script's line, the text and LF
unfoldable pub reply_line_of : ℕ → ℕ → Reply → List ℕ
reply_line_of client line reply = codes "@" ++ decimal client ++ codes " " ++ decimal line ++ codes " " ++ reply_text reply ++ 10 ∷ []

-- the last line: how many commits the session made, how many of them a sync acknowledged, and LF
unfoldable pub end_line_of : ℕ → ℕ → List ℕ
end_line_of commits synced = codes "end commits " ++ decimal commits ++ codes " synced " ++ decimal synced ++ 10 ∷ []
