-- Scripts, line by line.
use Rattle.std.proofs.Common.{◌≡◌, ℕ, ◌+◌, ◌<◌, ◌≤◌, Bool, true, false, not, cond, List, [], ◌∷◌, ◌++◌, length, Option, refl, sym, subst, ap, ◌∙◌, arith, length-append, append_assoc, append-nil}
use Rattle.std.proofs.lemmas.List.Elements.{filter-append, All-nil, All-cons}
use Rattle.std.specs.List.{AllZip, enumerate_from}
use Rattle.std.specs.Prelude.{filter, All}
use Rattle.forest_ops.specs.declared.operation.Op.{Op}
use Rattle.script_text.specs.Grammar.{IsFor}
use Rattle.script_text.specs.Grammar.IsFor.{named, unnamed}
use Rattle.script_text.specs.Lines.{is_skipped, lines_of}
use Rattle.script_text.specs.Scripts.{IsLine, IsScript, IsFaultOf, IsFirstBad, saying_from}
use Rattle.script_text.specs.Readings.{IsFaultOfLine}
use Rattle.script_text.specs.declared.reading.Line.{Line}
use Rattle.script_text.specs.declared.reading.LineFault.{LineFault}
use Rattle.script_text.specs.declared.reading.ScriptFault.{ScriptFault}
use Rattle.script_text.specs.declared.reading.ScriptFault.TheVariants.{Bad, NoMemory}
use Rattle.script_text.proofs.OneLine.{no_fault, one_says}

one_line : (number : ℕ) (text : List ℕ) (a b : Line) → IsLine number text a → IsLine number text b → a ≡ b
one_line number text a b is also =
    let said = one_says text a.client b.client a.op b.op is.said also.said in
    let by_line : (n : ℕ) → ℕ → Option Op → Line = λ n c o. record { line = n; client = c; op = o } in
    ap (λ n. by_line n a.client a.op) (is.numbered ∙ sym also.numbered) ∙ ap (λ c. by_line b.line c a.op) said.0 ∙ ap (λ o. by_line b.line b.client o) said.1

-- a numbered text says this
abbrev Numbered : ℕ × List ℕ → Line → Type 0
Numbered text entry = IsLine text.0 text.1 entry

one_of : (texts : List (ℕ × List ℕ)) (a b : List Line) → AllZip Numbered texts a → AllZip Numbered texts b → a ≡ b
one_of [] [] [] is also = refl
one_of [] [] (y ∷ b) is also = absurd also
one_of [] (x ∷ a) b is also = absurd is
one_of (text ∷ texts) [] b is also = absurd is
one_of (text ∷ texts) (x ∷ a) [] is also = absurd also
one_of (text ∷ texts) (x ∷ a) (y ∷ b) is also =
    ap (λ (entry : Line). entry ∷ a) (one_line text.0 text.1 x y is.0 also.0) ∙ ap (λ (rest : List Line). y ∷ rest) (one_of texts a b is.1 also.1)

pub one_script_of : (texts : List (List ℕ)) (a b : List Line) → IsScript texts a → IsScript texts b → a ≡ b
one_script_of texts a b is also = one_of (saying_from 1 texts) a b is also

client_below : (words : List (List ℕ)) (client : ℕ) (rest : List (List ℕ)) → IsFor words client rest → client < 16
client_below words client rest (named below is) = below
client_below words client rest (unnamed zero none is) = omega (arith, zero)

each_below : (texts : List (ℕ × List ℕ)) (script : List Line) → AllZip Numbered texts script → All (λ line. line.client < 16) script
each_below [] [] are = All-nil (λ (line : Line). line.client < 16)
each_below [] (entry ∷ script) are = absurd are
each_below (text ∷ texts) [] are = absurd are
each_below (text ∷ texts) (entry ∷ script) are =
    All-cons (λ (line : Line). line.client < 16) entry script (client_below _ entry.client _ are.0.said.has_verb.for_client) (each_below texts script are.1)

-- each line of a script is for one of 16 clients
pub clients_below : (texts : List (List ℕ)) (script : List Line) → IsScript texts script → All (λ line. line.client < 16) script
clients_below texts script is = each_below (saying_from 1 texts) script is

enumerate_from-append : {X : Type 0} (number : ℕ) (xs ys : List X) → enumerate_from number (xs ++ ys) ≡ enumerate_from number xs ++ enumerate_from (number + length xs) ys
enumerate_from-append number [] ys = let same : number ≡ number + 0 = omega arith in ap (λ n. enumerate_from n ys) same
enumerate_from-append number (x ∷ xs) ys =
    let same : number + 1 + length xs ≡ number + length (x ∷ xs) = omega arith in
    ap (λ rest. (number, x) ∷ rest) (enumerate_from-append (number + 1) xs ys ∙ ap (λ n. enumerate_from (number + 1) xs ++ enumerate_from n ys) same)

-- the texts that say something, in two parts
saying_from-append : (number : ℕ) (texts more : List (List ℕ)) → saying_from number (texts ++ more) ≡ saying_from number texts ++ saying_from (number + length texts) more
saying_from-append number texts more =
    let says : ℕ × List ℕ → Bool = λ text. not (is_skipped text.1) in
    ap (filter says) (enumerate_from-append number texts more) ∙ filter-append says (enumerate_from number texts) (enumerate_from (number + length texts) more)

-- one text more, which says something
saying_from-push : (number : ℕ) (texts : List (List ℕ)) (text : List ℕ) → is_skipped text ≡ false
    → saying_from number (texts ++ text ∷ []) ≡ saying_from number texts ++ (number + length texts, text) ∷ []
saying_from-push number texts text says =
    saying_from-append number texts (text ∷ []) ∙ ap (λ skipped. saying_from number texts ++ cond (not skipped) ((number + length texts, text) ∷ []) []) says

-- or nothing
saying_from-skip : (number : ℕ) (texts : List (List ℕ)) (text : List ℕ) → is_skipped text ≡ true → saying_from number (texts ++ text ∷ []) ≡ saying_from number texts
saying_from-skip number texts text skipped =
    saying_from-append number texts (text ∷ []) ∙ ap (λ skips. saying_from number texts ++ cond (not skips) ((number + length texts, text) ∷ []) []) skipped ∙ append-nil (saying_from number texts)

push_line : (texts : List (ℕ × List ℕ)) (script : List Line) (text : ℕ × List ℕ) (entry : Line) → AllZip Numbered texts script → Numbered text entry
    → AllZip Numbered (texts ++ text ∷ []) (script ++ entry ∷ [])
push_line [] [] text entry are is = (is, tt)
push_line [] (e ∷ script) text entry are is = absurd are
push_line (t ∷ texts) [] text entry are is = absurd are
push_line (t ∷ texts) (e ∷ script) text entry are is = (are.0, push_line texts script text entry are.1 is)

-- a text among others has a line
line_at : (before : List (ℕ × List ℕ)) (text : ℕ × List ℕ) (after : List (ℕ × List ℕ)) (script : List Line) → AllZip Numbered (before ++ text ∷ after) script
    → (entry : Line) × Numbered text entry
line_at [] text after [] are = absurd are
line_at [] text after (entry ∷ script) are = (entry, are.0)
line_at (t ∷ before) text after [] are = absurd are
line_at (t ∷ before) text after (entry ∷ script) are = line_at before text after script are.1

-- in a script no line has a fault
pub no_bad_line : (texts : List (List ℕ)) (script : List Line) (number : ℕ) (cause : LineFault) → IsScript texts script → IsFirstBad texts number cause → ⊥
no_bad_line texts script number cause is bad =
    let place = 1 + length bad.before in
    let parts : saying_from 1 texts ≡ saying_from 1 bad.before ++ (place, bad.bad) ∷ saying_from (place + 1) bad.after =
    ap (saying_from 1) bad.parts ∙ saying_from-append 1 bad.before (bad.bad ∷ bad.after)
    ∙ ap (λ skipped. saying_from 1 bad.before ++ cond (not skipped) ((place, bad.bad) ∷ saying_from (place + 1) bad.after) (saying_from (place + 1) bad.after)) bad.says in
    let line = line_at (saying_from 1 bad.before) (place, bad.bad) (saying_from (place + 1) bad.after) script (subst (λ texts. AllZip Numbered texts script) parts is) in
    no_fault bad.bad line.0.client line.0.op cause line.1.said bad.fault

-- The text is read up to the rest, and the script has its lines so far.
pub record IsReadTo (text rest : List ℕ) (number : ℕ) (script : List Line) : Type 0 where
  pub before : List (List ℕ)
  pub parts : lines_of text ≡ before ++ lines_of rest
  pub counted : length before ≡ number
  pub readable : IsScript before script
  pub room : number + length rest ≤ length text

module _ (text rest : List ℕ) (number : ℕ) (script : List Line) (read : IsReadTo text rest number script) where
  next_place : 1 + length read.before ≡ number + 1
  next_place = omega (arith, read.counted)

  next_parts : (line later : List ℕ) → lines_of rest ≡ line ∷ lines_of later → lines_of text ≡ (read.before ++ line ∷ []) ++ lines_of later
  next_parts line later cut = read.parts ∙ ap (λ lines. read.before ++ lines) cut ∙ sym (append_assoc read.before (line ∷ []) (lines_of later))

  next_count : (line : List ℕ) → length (read.before ++ line ∷ []) ≡ number + 1
  next_count line = omega (arith, length-append read.before (line ∷ []), read.counted)

  -- a line more is read
  pub read_on : (line later : List ℕ) (entry : Line) → lines_of rest ≡ line ∷ lines_of later → length later < length rest → is_skipped line ≡ false
      → IsLine (number + 1) line entry → IsReadTo text later (number + 1) (script ++ entry ∷ [])
  read_on line later entry cut shorter says is = record {
    before = read.before ++ line ∷ [];
    parts = next_parts line later cut;
    counted = next_count line;
    readable = subst (λ texts. AllZip Numbered texts (script ++ entry ∷ [])) (sym (saying_from-push 1 read.before line says))
        (push_line (saying_from 1 read.before) script (1 + length read.before, line) entry read.readable (subst (λ n. IsLine n line entry) (sym next_place) is));
    room = omega (arith, read.room, shorter);
  }

  -- a line more is skipped
  pub skip_on : (line later : List ℕ) → lines_of rest ≡ line ∷ lines_of later → length later < length rest → is_skipped line ≡ true
      → IsReadTo text later (number + 1) script
  skip_on line later cut shorter skipped = record {
    before = read.before ++ line ∷ [];
    parts = next_parts line later cut;
    counted = next_count line;
    readable = subst (λ texts. AllZip Numbered texts script) (sym (saying_from-skip 1 read.before line skipped)) read.readable;
    room = omega (arith, read.room, shorter);
  }

  -- what is wrong with the next line is wrong with the text
  pub read_no_further : (line later : List ℕ) (fault : ScriptFault) → lines_of rest ≡ line ∷ lines_of later → is_skipped line ≡ false
      → IsFaultOfLine (number + 1) line fault → IsFaultOf (lines_of text) fault
  read_no_further line later (Bad place cause) cut says found = record {
    before = read.before;
    bad = line;
    after = lines_of later;
    parts = read.parts ∙ ap (λ lines. read.before ++ lines) cut;
    place = omega (arith, found.0, read.counted);
    script = script;
    readable = read.readable;
    says = says;
    fault = found.1;
  }
  read_no_further line later NoMemory cut says found = tt
