-- Which options the arguments after a command give: `--NAME VALUE` or `--NAME=VALUE`, in any order, each at most once.
use Rattle.std.specs.Prelude.{ℕ, ◌==◌, ◌&&◌, Bool, false, not, List, [], ◌∷◌, ◌++◌, Option, Some, None, codes, if◌then◌else◌, find, option_map}
use Rattle.std.specs.List.{after_first, before_first, list_any}
use Rattle.std.specs.Str.{bytes_eq}

-- a text, as its bytes
abbrev pub Text : Type 0
Text = List ℕ

-- names of options, each with the value that it is given
abbrev pub Options : Type 0
Options = List (Text × Text)

-- the names that an option may have
abbrev pub option_names : List Text
option_names = codes "id" ∷ codes "blocks" ∷ codes "journal" ∷ codes "data-replicas" ∷ codes "meta-replicas" ∷ []

-- an option has this name
abbrev pub is_known : Text → Bool
is_known name = list_any (λ known. bytes_eq known name) option_names

-- the option is given
abbrev pub has_name : Text → Options → Bool
has_name name given = list_any (λ option. bytes_eq option.0 name) given

-- the value that the option is given
abbrev pub value_of : Text → Options → Option Text
value_of name given = option_map (λ option. option.1) (find (λ option. bytes_eq option.0 name) given)

-- the name is an option's, and is not given yet
abbrev pub may_give : Text → Options → Bool
may_give name given = is_known name && not (has_name name given)

-- the byte is `=`
abbrev pub is_equals : ℕ → Bool
is_equals byte = byte == 61

-- the argument begins with a hyphen
abbrev pub has_hyphen : Text → Bool
has_hyphen [] = false
has_hyphen (first ∷ rest) = first == 45

-- what stands after two hyphens: a name, and the value after the first `=` where there is one
abbrev pub long_word : Text → Option (Text × Option Text)
long_word (first ∷ second ∷ rest) =
    if first == 45 && second == 45
    then Some (before_first is_equals rest, if list_any is_equals rest then Some (after_first is_equals rest) else None)
    else None
long_word _ = None

-- what an argument makes of the options after it: with its own value, or as a name that waits for the next argument
abbrev pub begun : Option (Text × Option Text) → Options → (Options → Option Options) → (Text → Option Options) → Option Options
begun None given further waiting = None
begun (Some (name, Some value)) given further waiting = if may_give name given then further (given ++ (name, value) ∷ []) else None
begun (Some (name, None)) given further waiting = waiting name

-- the options that are given and those that the arguments add, where a name may wait for its value; none where the arguments are no options
unfoldable pub read_options : Options → Option Text → List Text → Option Options
read_options given None [] = Some given
read_options given (Some name) [] = None
read_options given None (word ∷ words) = begun (long_word word) given (λ more. read_options more None words) (λ name. read_options given (Some name) words)
read_options given (Some name) (word ∷ words) =
    if may_give name given && not (has_hyphen word) then read_options (given ++ (name, word) ∷ []) None words else None

-- the options that the arguments give
abbrev pub options_of : List Text → Option Options
options_of words = read_options [] None words
