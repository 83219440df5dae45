-- What has been printed of a run's text by now.
use Rattle.std.specs.Prelude.{◌≡◌, ℕ, ◌<◌, nat_le, Bool, true, false, ◌||◌, if◌then◌else◌, List, [], ◌++◌, length}
use Rattle.vol_types.specs.Faults.{RoseBy}
use Rattle.shell.specs.declared.page.Page.{Page}
use Rattle.forest_ops.specs.declared.operation.Reply.{Reply}
use Rattle.shell.specs.Causes.{asked_status}
use Rattle.shell.specs.Outcome.{acknowledges, most_gathered}

-- nothing more is printed: a line was out of memory, or the sink has failed
abbrev pub has_ended : Page → Bool
has_ended page = page.is_cut || page.has_failed

-- whether lines of so many bytes are given to the sink behind this reply: it acknowledges commits, or they are many
abbrev pub is_due : ℕ → Reply → Bool
is_due gathered reply = acknowledges reply || nat_le most_gathered gathered

-- the lines that wait behind a reply: those before it and its own, or none where they are due
abbrev pub lines_after : List ℕ → List ℕ → Reply → List ℕ
lines_after lines line reply = if is_due (length (lines ++ line)) reply then [] else lines ++ line

-- the status of a run that has printed this
abbrev pub page_status : Page → ℕ
page_status page = if page.has_failed then 5 else asked_status (page.tally.lacks_memory || page.is_cut) page.tally.has_failed

-- A prefix of the text was given to the sink. While nothing has failed the page has the rest; where a line was out of memory
-- there is some rest.
pub record Gave (page : Page) (text held held_after : List ℕ) : Type 0 where
  pub given : List ℕ
  pub rest : List ℕ
  pub holds : held_after ≡ held ++ given
  pub whole : given ++ rest ≡ text
  pub pending : page.is_cut ≡ false → page.has_failed ≡ false → rest ≡ page.lines
  pub cut : page.is_cut ≡ true → page.has_failed ≡ false → 0 < length rest

-- Since the sink was so, a text has been printed on a page: its lines, one after another, as far as they were given.
pub record Prints {K : Type 0} (sink_tells : Type 0) (held : K → List ℕ) (faults : K → ℕ) (start : K) (text : List ℕ) (page : Page) (sink : K) : Type 0 where
  pub gave : sink_tells → Gave page text (held start) (held sink)
  pub failed : page.has_failed ≡ true → RoseBy 1 (faults start) (faults sink)
  pub still : page.has_failed ≡ false → faults sink ≡ faults start
