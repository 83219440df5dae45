-- What the arguments on the command line ask for.
use Rattle.std.specs.Prelude.{ℕ, List, [], ◌∷◌, Option, Some, None, codes, if◌then◌else◌, option_and_then, option_map}
use Rattle.std.specs.Str.{bytes_eq}
use Rattle.uuid.specs.Text.{parsed}
use Rattle.command_line.specs.Numbers.{number}
use Rattle.command_line.specs.Options.{Text, options_of, value_of}
use Rattle.command_line.specs.declared.request.FormatRequest.{FormatRequest}
use Rattle.command_line.specs.declared.request.Request.{Request}
use Rattle.command_line.specs.declared.request.Request.TheVariants.{Run, Format, Info}

-- the number of a text, or this one where there is no text
abbrev pub number_or : ℕ → Option Text → Option ℕ
number_or otherwise None = Some otherwise
number_or otherwise (Some text) = number text

-- the request that the values of the options make, where `value` gives what an option is given
abbrev pub format_with : (Text → Option Text) → Option FormatRequest
format_with value =
    option_and_then (λ id.
    option_and_then (λ blocks.
    option_and_then (λ journal.
    option_and_then (λ data_replicas.
    option_map (λ meta_replicas. record { id = id; blocks = blocks; journal = journal; data_replicas = data_replicas; meta_replicas = meta_replicas })
    (number_or 1 (value (codes "meta-replicas"))))
    (number_or 1 (value (codes "data-replicas"))))
    (number_or 256 (value (codes "journal"))))
    (option_and_then number (value (codes "blocks"))))
    (option_and_then parsed (value (codes "id")))

-- what the arguments after `format` ask for
abbrev pub format_of : List Text → Option FormatRequest
format_of words = option_and_then (λ given. format_with (λ name. value_of name given)) (options_of words)

-- what the arguments after a command ask for that has no options: what it does, where there are none
abbrev pub without_options : Request → List Text → Option Request
without_options request [] = Some request
without_options request (word ∷ words) = None

-- what the arguments ask for, by the first of them
abbrev pub request_of : List Text → Option Request
request_of [] = None
request_of (command ∷ words) =
    if bytes_eq command (codes "run") then without_options Run words
    else if bytes_eq command (codes "info") then without_options Info words
    else if bytes_eq command (codes "format") then option_map Format (format_of words)
    else None
