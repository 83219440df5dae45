-- What the arguments of the program name: the arguments of a command, and its image files.
use Rattle.std.specs.Prelude.{ℕ, ◌+◌, Bool, false, ◌&&◌, ◌||◌, nat_le, if◌then◌else◌, List, [], ◌∷◌, codes, length, take, drop, Option, Some, None, option_and_then}
use Rattle.std.specs.List.{position_from}
use Rattle.std.specs.Str.{bytes_eq}

-- the argument asks for help
abbrev pub is_help : List ℕ → Bool
is_help arg = bytes_eq arg (codes "--help") || bytes_eq arg (codes "-h")

-- the argument is the word for it
abbrev pub is_help_word : List ℕ → Bool
is_help_word arg = is_help arg || bytes_eq arg (codes "help")

-- the argument is a command that has a help of its own
abbrev pub has_help : List ℕ → Bool
has_help arg = bytes_eq arg (codes "format") || bytes_eq arg (codes "run") || bytes_eq arg (codes "info")

-- the arguments ask for help, on the program or on a command, or for the version
abbrev pub asks_help : List (List ℕ) → Bool
asks_help (only ∷ []) = is_help_word only || bytes_eq only (codes "--version")
asks_help (first ∷ second ∷ []) = if is_help second then has_help first else (is_help_word first && has_help second)
asks_help args = false

-- the argument is `--`
abbrev pub is_dashes : List ℕ → Bool
is_dashes arg = bytes_eq arg (codes "--")

-- the place of the first `--`
abbrev pub first_dashes : List (List ℕ) → Option ℕ
first_dashes args = position_from is_dashes 0 args

-- the arguments before an argument and the files after it, where there are one to eight of these
abbrev pub split_at : List (List ℕ) → ℕ → Option (List (List ℕ) × List (List ℕ))
split_at args place = let files = drop (place + 1) args in if nat_le 1 (length files) && nat_le (length files) 8 then Some (take place args, files) else None

-- the arguments before the first `--`, and the files after it
abbrev pub words_and_files : List (List ℕ) → Option (List (List ℕ) × List (List ℕ))
words_and_files args = option_and_then (split_at args) (first_dashes args)
