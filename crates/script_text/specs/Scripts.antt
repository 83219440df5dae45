-- Which script stands in the lines of a text, and which line is the first bad one.
use Rattle.std.specs.Prelude.{◌≡◌, ℕ, ◌+◌, not, false, List, ◌∷◌, ◌++◌, length, filter}
use Rattle.std.specs.List.{AllZip, enumerate_from}
use Rattle.script_text.specs.Grammar.{Says, HasFault}
use Rattle.script_text.specs.Lines.{is_skipped}
use Rattle.script_text.specs.declared.reading.Line.{Line}
use Rattle.script_text.specs.declared.reading.LineFault.{LineFault}
use Rattle.script_text.specs.declared.reading.ScriptFault.{ScriptFault}
use Rattle.script_text.specs.declared.reading.ScriptFault.TheVariants.{Bad, NoMemory}

-- The text of a line says this, under its number.
pub record IsLine (number : ℕ) (text : List ℕ) (entry : Line) : Type 0 where
  pub numbered : entry.line ≡ number
  pub said : Says text entry.client entry.op

-- the texts that say something, each with its number, counted from here on over all texts
abbrev pub saying_from : ℕ → List (List ℕ) → List (ℕ × List ℕ)
saying_from number texts = filter (λ text. not (is_skipped text.1)) (enumerate_from number texts)

-- the script has one line for each text that says something, in order, numbered from here on
abbrev pub IsScriptFrom : ℕ → List (List ℕ) → List Line → Type 0
IsScriptFrom number texts script = AllZip (λ text entry. IsLine text.0 text.1 entry) (saying_from number texts) script

-- the same, numbered from 1
abbrev pub IsScript : List (List ℕ) → List Line → Type 0
IsScript texts script = IsScriptFrom 1 texts script

-- The text of this number, counted from 1, has the fault, and those before it are a script.
pub record IsFirstBad (texts : List (List ℕ)) (number : ℕ) (cause : LineFault) : Type 0 where
  pub before : List (List ℕ)
  pub bad : List ℕ
  pub after : List (List ℕ)
  pub parts : texts ≡ before ++ bad ∷ after
  pub place : number ≡ length before + 1
  pub script : List Line
  pub readable : IsScript before script
  pub says : is_skipped bad ≡ false
  pub fault : HasFault bad cause

-- the lines have this fault; out of memory says nothing of them
abbrev pub IsFaultOf : List (List ℕ) → ScriptFault → Type 0
IsFaultOf texts (Bad number cause) = IsFirstBad texts number cause
IsFaultOf texts NoMemory = Unit {0}
