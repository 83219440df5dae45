-- The fault of the words behind a verb: first that they are too few or too many, then the first word that says nothing of its kind.
use Rattle.std.specs.Prelude.{◌≡◌, ◌⊎◌, ℕ, ◌==◌, List, ◌∷◌, length, MatchOption, find}
use Rattle.script_text.specs.Arguments.{Kind, SaysSome, SaysNothing, fault_of}
use Rattle.script_text.specs.declared.reading.LineFault.{LineFault}
use Rattle.script_text.specs.declared.reading.LineFault.TheVariants.{BadArgs}

-- a word says nothing, or it says something and a later word is the first that says nothing
abbrev pub IsFirstFault : List Kind → List (List ℕ) → LineFault → Type 0
IsFirstFault (kind ∷ kinds) (word ∷ words) fault = (SaysNothing kind word × (fault ≡ fault_of kind)) ⊎ (SaysSome kind word × IsFirstFault kinds words fault)
IsFirstFault _ _ fault = ⊥

-- the words have this fault behind a verb with these forms
abbrev pub IsFaultBehind : List (List Kind) → List (List ℕ) → LineFault → Type 0
IsFaultBehind forms words fault =
    MatchOption (find (λ kinds. length kinds == length words) forms) (fault ≡ BadArgs) (λ kinds. IsFirstFault kinds words fault)
