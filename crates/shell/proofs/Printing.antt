-- How a text is printed, one line after another, and what it amounts to in the end.
use Rattle.std.proofs.Common.{◌≡◌, ℕ, ◌+◌, ◌<◌, Bool, true, false, List, [], ◌++◌, length, take, drop, refl, ap, ◌∙◌, sym, subst, arith, append_assoc, append-nil, Result, Ok, Err}
use Rattle.std.specs.Prelude.{◌||◌, OnOk, OnErr, is_err}
use Rattle.std.proofs.Math.Seq.{take-append-add, take-append_seam}
use Rattle.std.proofs.lemmas.List.{length-append, take-append-drop, take-append-le, take_all}
use Rattle.vol_types.specs.Faults.{CountsFaults, RoseBy}
use Rattle.text_io.specs.Streams.{GivesPrefix}
use Rattle.script_text.specs.Replies.{end_line_of, reply_line_of}
use Rattle.forest_ops.specs.declared.operation.Reply.{Reply}
use Rattle.shell.specs.Causes.{IsCut}
use Rattle.shell.specs.Printing.{Prints, has_ended}
use Rattle.shell.specs.declared.page.Page.{Page}

-- a prefix of the second text after all of the first
pub prefix_then : (first second held mid new : List ℕ) → mid ≡ held ++ first → GivesPrefix second mid new → GivesPrefix (first ++ second) held new
prefix_then first second held mid new whole (n, le, is) =
    (length first + n, omega (arith, length-append first second, le), is ∙ ap (λ list. list ++ take n second) whole ∙ append_assoc held first (take n second) ∙ ap (λ list. held ++ list) (sym (take-append-add first second n)))

-- a prefix of the first text is one of both
pub prefix_longer : (first second held new : List ℕ) → GivesPrefix first held new → GivesPrefix (first ++ second) held new
prefix_longer first second held new (n, le, is) = (n, omega (arith, length-append first second, le), is ∙ ap (λ list. held ++ list) (sym (take-append-le n first second le)))

-- all of the first text was given and a prefix of the second: what was given, and the rest
parts_then : (first second held mid new : List ℕ) → mid ≡ held ++ first → GivesPrefix second mid new → (given : List ℕ) × (rest : List ℕ) × (given ++ rest ≡ first ++ second) × (new ≡ held ++ given)
parts_then first second held mid new whole (n, le, is) =
    (first ++ take n second, drop n second, append_assoc first (take n second) (drop n second) ∙ ap (λ list. first ++ list) (take-append-drop n second), is ∙ ap (λ list. list ++ take n second) whole ∙ append_assoc held first (take n second))

-- the whole of a text is a prefix of it
pub whole_is_prefix : (text held new : List ℕ) → new ≡ held ++ text → GivesPrefix text held new
whole_is_prefix text held new is = (length text, omega (arith), is ∙ ap (λ list. held ++ list) (sym (take_all (length text) text (omega (arith)))))

-- a prefix of a text, by its parts
parts_prefix : (given rest text held new : List ℕ) → given ++ rest ≡ text → new ≡ held ++ given → GivesPrefix text held new
parts_prefix given rest text held new whole holds =
    (length given, omega (arith, length-append given rest, ap length whole), holds ∙ ap (λ list. held ++ list) (sym (take-append_seam given rest) ∙ ap (take (length given)) whole))

parts_cut : (given rest text held new : List ℕ) → given ++ rest ≡ text → new ≡ held ++ given → 0 < length rest → IsCut text held new
parts_cut given rest text held new whole holds some =
    (length given, omega (arith, length-append given rest, ap length whole, some), holds ∙ ap (λ list. held ++ list) (sym (take-append_seam given rest) ∙ ap (take (length given)) whole))

pub neither : (one other : Bool) → (one || other) ≡ false → (one ≡ false) × (other ≡ false)
neither true other is = absurd (cc)
neither false other is = (refl, is)

module _ {K : Type 0} (sink_tells : Type 0) (held : K → List ℕ) (faults : K → ℕ) (start : K) (text : List ℕ) where
  -- a text goes on by a line that waits on the page, or that isn't printed where printing has ended
  pub prints_more : (line : List ℕ) (old new : Page) (sink : K) → new.is_cut ≡ old.is_cut → new.has_failed ≡ old.has_failed → (has_ended old ≡ false → new.lines ≡ old.lines ++ line) → Prints sink_tells held faults start text old sink → Prints sink_tells held faults start (text ++ line) new sink
  prints_more line old new sink cut failed adds prints = record {
    gave = λ told. let gave = prints.gave told in record {
      given = gave.given;
      rest = gave.rest ++ line;
      holds = gave.holds;
      whole = sym (append_assoc gave.given gave.rest line) ∙ ap (λ list. list ++ line) gave.whole;
      pending = λ not_cut not_failed. ap (λ list. list ++ line) (gave.pending (sym cut ∙ not_cut) (sym failed ∙ not_failed)) ∙ sym (adds (none_of old.is_cut old.has_failed (sym cut ∙ not_cut) (sym failed ∙ not_failed)));
      cut = λ is_cut not_failed. let some : 0 < length gave.rest = gave.cut (sym cut ∙ is_cut) (sym failed ∙ not_failed) in omega (arith, some, length-append gave.rest line);
    };
    failed = λ is. prints.failed (sym failed ∙ is);
    still = λ is. prints.still (sym failed ∙ is);
  }
    where
      none_of : (one other : Bool) → one ≡ false → other ≡ false → (one || other) ≡ false
      none_of true other first second = absurd (cc)
      none_of false other first second = second

  -- the lines that wait are given, or the sink fails
  pub prints_given : {T E : Type 0} (result : Result T E) (old new : Page) (sink new_sink : K) → has_ended old ≡ false → new.lines ≡ [] → new.is_cut ≡ old.is_cut → new.has_failed ≡ is_err result
      → (sink_tells → OnOk result (held new_sink ≡ held sink ++ old.lines)) → (sink_tells → OnErr result (GivesPrefix old.lines (held sink) (held new_sink))) → CountsFaults result (faults sink) (faults new_sink)
      → Prints sink_tells held faults start text old sink → Prints sink_tells held faults start text new new_sink
  prints_given (Ok value) old new sink new_sink goes empty cut failed ok err counts prints = record {
    gave = λ told. let gave = prints.gave told in
        let waits : gave.rest ≡ old.lines = gave.pending (neither old.is_cut old.has_failed goes).0 (neither old.is_cut old.has_failed goes).1 in record {
          given = gave.given ++ gave.rest;
          rest = [];
          holds = ok told ∙ ap (λ list. list ++ old.lines) gave.holds ∙ append_assoc (held start) gave.given old.lines ∙ ap (λ list. held start ++ (gave.given ++ list)) (sym waits);
          whole = append-nil (gave.given ++ gave.rest) ∙ gave.whole;
          pending = λ not_cut not_failed. sym empty;
          cut = λ is_cut not_failed. absurd (differ (sym is_cut ∙ cut ∙ (neither old.is_cut old.has_failed goes).0));
        };
    failed = λ is. absurd (differ (sym is ∙ failed));
    still = λ is. counts.still ∙ prints.still (neither old.is_cut old.has_failed goes).1;
  }
    where
      differ : true ≡ false → ⊥
      differ same = absurd (cc)
  prints_given (Err e) old new sink new_sink goes empty cut failed ok err counts prints = record {
    gave = λ told. let gave = prints.gave told in
        let waits : gave.rest ≡ old.lines = gave.pending (neither old.is_cut old.has_failed goes).0 (neither old.is_cut old.has_failed goes).1 in
        let parts = parts_then gave.given old.lines (held start) (held sink) (held new_sink) gave.holds (err told) in record {
          given = parts.0;
          rest = parts.1;
          holds = parts.3;
          whole = parts.2 ∙ ap (λ list. gave.given ++ list) (sym waits) ∙ gave.whole;
          pending = λ not_cut not_failed. absurd (differ (sym failed ∙ not_failed));
          cut = λ is_cut not_failed. absurd (differ (sym failed ∙ not_failed));
        };
    failed = λ is. subst (λ n. RoseBy 1 n (faults new_sink)) (prints.still (neither old.is_cut old.has_failed goes).1) (counts.rose refl);
    still = λ is. absurd (differ (sym failed ∙ is));
  }
    where
      differ : true ≡ false → ⊥
      differ same = absurd (cc)

  -- nothing is given where printing has ended
  pub prints_ended : (old new : Page) (sink : K) → has_ended old ≡ true → new.is_cut ≡ old.is_cut → new.has_failed ≡ old.has_failed → Prints sink_tells held faults start text old sink → Prints sink_tells held faults start text new sink
  prints_ended old new sink ended cut failed prints = record {
    gave = λ told. let gave = prints.gave told in record {
      given = gave.given;
      rest = gave.rest;
      holds = gave.holds;
      whole = gave.whole;
      pending = λ not_cut not_failed. absurd (not_ended old.is_cut old.has_failed ended (sym cut ∙ not_cut) (sym failed ∙ not_failed));
      cut = λ is_cut not_failed. gave.cut (sym cut ∙ is_cut) (sym failed ∙ not_failed);
    };
    failed = λ is. prints.failed (sym failed ∙ is);
    still = λ is. prints.still (sym failed ∙ is);
  }
    where
      not_ended : (one other : Bool) → (one || other) ≡ true → one ≡ false → other ≡ false → ⊥
      not_ended true other either first second = absurd (cc)
      not_ended false other either first second = absurd (cc)

  -- a reply is noted that has no line
  pub prints_noted : (old new : Page) (sink : K) → new.lines ≡ old.lines → new.is_cut ≡ old.is_cut → new.has_failed ≡ old.has_failed → Prints sink_tells held faults start text old sink → Prints sink_tells held faults start text new sink
  prints_noted old new sink lines cut failed prints = record {
    gave = λ told. let gave = prints.gave told in record {
      given = gave.given;
      rest = gave.rest;
      holds = gave.holds;
      whole = gave.whole;
      pending = λ not_cut not_failed. gave.pending (sym cut ∙ not_cut) (sym failed ∙ not_failed) ∙ sym lines;
      cut = λ is_cut not_failed. gave.cut (sym cut ∙ is_cut) (sym failed ∙ not_failed);
    };
    failed = λ is. prints.failed (sym failed ∙ is);
    still = λ is. prints.still (sym failed ∙ is);
  }

  -- a line is out of memory, after all before it were given
  pub prints_cut : (line : List ℕ) (old new : Page) (sink : K) → 0 < length line → old.lines ≡ [] → old.is_cut ≡ false → new.is_cut ≡ true → new.has_failed ≡ old.has_failed → Prints sink_tells held faults start text old sink → Prints sink_tells held faults start (text ++ line) new sink
  prints_cut line old new sink some empty before cut failed prints = record {
    gave = λ told. let gave = prints.gave told in record {
      given = gave.given;
      rest = gave.rest ++ line;
      holds = gave.holds;
      whole = sym (append_assoc gave.given gave.rest line) ∙ ap (λ list. list ++ line) gave.whole;
      pending = λ not_cut not_failed. absurd (differ (sym cut ∙ not_cut));
      cut = λ is_cut not_failed. omega (arith, some, length-append gave.rest line);
    };
    failed = λ is. prints.failed (sym failed ∙ is);
    still = λ is. prints.still (sym failed ∙ is);
  }
    where
      differ : true ≡ false → ⊥
      differ same = absurd (cc)

  -- What was printed in the end is a prefix of the text, and all of it unless the status is 5 or 7.
  pub all_or_part : (page : Page) (sink : K) → Prints sink_tells held faults start text page sink → sink_tells → GivesPrefix text (held start) (held sink)
  all_or_part page sink prints told = let gave = prints.gave told in parts_prefix gave.given gave.rest text (held start) (held sink) gave.whole gave.holds

  pub all_given : (page : Page) (sink : K) → Prints sink_tells held faults start text page sink → has_ended page ≡ false → page.lines ≡ [] → sink_tells → held sink ≡ held start ++ text
  all_given page sink prints goes empty told =
      let gave = prints.gave told in
      let none : gave.rest ≡ [] = gave.pending (neither page.is_cut page.has_failed goes).0 (neither page.is_cut page.has_failed goes).1 ∙ empty in
      gave.holds ∙ ap (λ list. held start ++ list) (sym (append-nil gave.given) ∙ ap (λ list. gave.given ++ list) (sym none) ∙ gave.whole)

  pub part_given : (page : Page) (sink : K) → Prints sink_tells held faults start text page sink → page.is_cut ≡ true → page.has_failed ≡ false → sink_tells → IsCut text (held start) (held sink)
  part_given page sink prints is_cut not_failed told = let gave = prints.gave told in parts_cut gave.given gave.rest text (held start) (held sink) gave.whole gave.holds (gave.cut is_cut not_failed)

-- nothing has been printed of a run that begins
pub prints_nothing : {K : Type 0} (sink_tells : Type 0) (held : K → List ℕ) (faults : K → ℕ) (start : K) (page : Page) → page.lines ≡ [] → page.is_cut ≡ false → page.has_failed ≡ false → Prints sink_tells held faults start [] page start
prints_nothing sink_tells held faults start page empty whole goes = record {
  gave = λ told. record { given = []; rest = []; holds = sym (append-nil (held start)); whole = refl; pending = λ not_cut not_failed. sym empty; cut = λ is_cut not_failed. absurd (differ (sym is_cut ∙ whole)) };
  failed = λ is. absurd (differ (sym is ∙ goes));
  still = λ is. refl;
}
  where
    differ : true ≡ false → ⊥
    differ same = absurd (cc)

-- no line is empty
pub some_reply_line : (client line : ℕ) (reply : Reply) → 0 < length (reply_line_of client line reply)
unfolding reply_line_of
some_reply_line client line reply = omega arith

pub some_end_line : (commits synced : ℕ) → 0 < length (end_line_of commits synced)
unfolding end_line_of
some_end_line commits synced = omega arith
