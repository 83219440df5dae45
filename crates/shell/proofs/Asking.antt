-- What the arguments ask for, and which numbers no layout has.
use Rattle.std.proofs.Common.{◌≡◌, ℕ, zero, suc, ◌<◌, ◌≤◌, Bool, true, false, cond, List, [], ◌∷◌, length, replicate, get_or, Some, None, refl, ap, sym, subst, arith}
use Rattle.std.specs.Prelude.{nat_le}
use Rattle.std.proofs.lemmas.Bool.Decides.{nat_tests}
use Rattle.std.proofs.lemmas.Bool.{and_from, false≢true}
use Rattle.std.proofs.lemmas.Option.{same_Some, none-some, option_and_then_some}
use Rattle.vol_types.specs.declared.layout.Layout.{Layout}
use Rattle.vol_types.specs.Layouts.{is_layout}
use Rattle.geometry.specs.Layouts.{have_room}
use Rattle.geometry.specs.LayoutFacts.{HasPlaces, has_places}
use Rattle.command_line.specs.Requests.{request_of}
use Rattle.command_line.specs.declared.request.FormatRequest.{FormatRequest}
use Rattle.command_line.specs.declared.request.Request.{Request}
use Rattle.command_line.specs.declared.request.Request.TheVariants as requests
use Rattle.shell.specs.Tasks.{layout_asked, task_for, task_of}
use Rattle.shell.specs.declared.task.Task.{Task}
use Rattle.shell.specs.declared.task.Task.TheVariants.{Run, Format, Info}

here_fits : (n : ℕ) → nat_le n n ≡ true
here_fits n = grind (arith, nat_tests)

have_room_here : (blocks : List ℕ) → have_room blocks blocks ≡ true
have_room_here [] = refl
have_room_here (n ∷ blocks) = and_from (nat_le n n) (have_room blocks blocks) (here_fits n) (have_room_here blocks)

places : (layout : Layout) → is_layout layout ≡ true → HasPlaces layout.blocks layout
places layout is = has_places layout.blocks layout (and_from (is_layout layout) (have_room layout.blocks layout.blocks) is (have_room_here layout.blocks))

unfit : (layout : Layout) → (HasPlaces layout.blocks layout → ⊥) → is_layout layout ≡ false
unfit layout none = by (is_layout layout) refl
  where
    by : (test : Bool) → is_layout layout ≡ test → is_layout layout ≡ false
    by true is = absurd (none (places layout is))
    by false is = is

first_of : (devices n : ℕ) → 1 ≤ length (replicate devices n) → get_or (replicate devices n) 0 0 ≡ n
first_of zero n some = absurd (omega (arith, some))
first_of (suc devices) n some = refl

-- no device of a volume is so long
pub blocks_beyond : (asked : FormatRequest) (devices : ℕ) → 1048576 < asked.blocks → is_layout (layout_asked devices asked) ≡ false
blocks_beyond asked devices beyond = unfit (layout_asked devices asked) (λ has. omega (arith, beyond, first_of devices asked.blocks has.some, has.most 0 (omega (arith, has.some))))

-- no journal is
pub journal_beyond : (asked : FormatRequest) (devices : ℕ) → 4096 < asked.journal → is_layout (layout_asked devices asked) ≡ false
journal_beyond asked devices beyond = unfit (layout_asked devices asked) (λ has. omega (arith, beyond, has.journal))

-- there are no more copies of metadata
pub meta_beyond : (asked : FormatRequest) (devices : ℕ) → 3 < asked.meta_replicas → is_layout (layout_asked devices asked) ≡ false
meta_beyond asked devices beyond = unfit (layout_asked devices asked) (λ has. omega (arith, beyond, has.mirrors_few))

-- nor of data
pub data_beyond : (asked : FormatRequest) (devices : ℕ) → 3 < asked.data_replicas → is_layout (layout_asked devices asked) ≡ false
data_beyond asked devices beyond = unfit (layout_asked devices asked) (λ has. omega (arith, beyond, has.replicas_few))

-- The layout of a format is one, of as many devices as there are.
pub record Fits (devices : ℕ) (layout : Layout) : Type 0 where
  pub is : is_layout layout ≡ true
  pub count : length layout.blocks ≡ devices
  pub some : 1 ≤ length layout.blocks

counted : (devices n : ℕ) → length (replicate devices n) ≡ devices
counted zero n = refl
counted (suc devices) n = ap suc (counted devices n)

chosen : (devices : ℕ) (asked layout : Layout) (test : Bool) → is_layout asked ≡ test → length asked.blocks ≡ devices → cond test (Some (Format asked)) None ≡ Some (Format layout) → Fits devices layout
chosen devices asked layout false is count found = absurd (none-some (Format layout) found)
chosen devices asked layout true is count found =
    let same : asked ≡ layout = same_format (same_Some (Format asked) (Format layout) found) in
    subst (Fits devices) same (record { is = is; count = count; some = (places asked is).some })
  where
    layout_of : Layout → Task → Layout
    layout_of otherwise Run = otherwise
    layout_of otherwise (Format l) = l
    layout_of otherwise Info = otherwise

    same_format : Format asked ≡ Format layout → asked ≡ layout
    same_format same = ap (layout_of asked) same

by_request : (devices : ℕ) (request : Request) (layout : Layout) → task_for devices request ≡ Some (Format layout) → Fits devices layout
by_request devices requests.Run layout is = absurd (run_is_none (same_Some Run (Format layout) is))
  where
    is_run : Task → Bool
    is_run Run = true
    is_run (Format l) = false
    is_run Info = false

    run_is_none : Run ≡ Format layout → ⊥
    run_is_none same = false≢true (sym (ap is_run same))
by_request devices requests.Info layout is = absurd (info_is_none (same_Some Info (Format layout) is))
  where
    is_info : Task → Bool
    is_info Info = true
    is_info task = false

    info_is_none : Info ≡ Format layout → ⊥
    info_is_none same = false≢true (sym (ap is_info same))
by_request devices (requests.Format asked) layout is = chosen devices (layout_asked devices asked) layout (is_layout (layout_asked devices asked)) refl (counted devices asked.blocks) is

pub format_fits : (devices : ℕ) (arguments : List (List ℕ)) (layout : Layout) → task_of devices arguments ≡ Some (Format layout) → Fits devices layout
format_fits devices arguments layout is = option_and_then_some (task_for devices) (request_of arguments) (Format layout) is (λ request _ found. by_request devices request layout found)
