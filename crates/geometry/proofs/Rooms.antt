-- Which sizes have room, device by device.
use Rattle.std.proofs.Common.{◌≡◌, ℕ, zero, suc, ◌+◌, ◌<◌, ◌≤◌, nat_le, ◌&&◌, true, false, List, [], ◌∷◌, length, drop, get_or, refl, ap, ◌∙◌, sym, arith}
use Rattle.std.proofs.lemmas.Bool.{le-leb, lt-leb}
use Rattle.std.proofs.lemmas.List.{drop_all}
use Rattle.geometry.specs.Layouts.{have_room}

-- The rest of the devices is the next one and the rest after it.
pub room_step : (blocks sizes : List ℕ) (dev : ℕ) → dev < length blocks → dev < length sizes
    → have_room (drop dev blocks) (drop dev sizes) ≡ (nat_le (get_or blocks dev 0) (get_or sizes dev 0) && have_room (drop (suc dev) blocks) (drop (suc dev) sizes))
room_step [] sizes dev one other = absurd (omega (arith, one))
room_step (n ∷ blocks) [] dev one other = absurd (omega (arith, other))
room_step (n ∷ blocks) (size ∷ sizes) zero one other = refl
room_step (n ∷ blocks) (size ∷ sizes) (suc dev) one other = room_step blocks sizes dev (omega (arith, one)) (omega (arith, other))

-- A device that has room leaves what is said of the rest.
pub room_here : (blocks sizes : List ℕ) (dev : ℕ) → dev < length blocks → dev < length sizes → get_or blocks dev 0 ≤ get_or sizes dev 0
    → have_room (drop (dev + 1) blocks) (drop (dev + 1) sizes) ≡ have_room (drop dev blocks) (drop dev sizes)
room_here blocks sizes dev one other fits =
    let next : dev + 1 ≡ suc dev = omega arith in
    ap (λ n. have_room (drop n blocks) (drop n sizes)) next
    ∙ sym (room_step blocks sizes dev one other ∙ ap (λ test. test && have_room (drop (suc dev) blocks) (drop (suc dev) sizes)) (le-leb (get_or blocks dev 0) (get_or sizes dev 0) fits))

-- A device that has none ends it.
pub no_room_here : (blocks sizes : List ℕ) (dev : ℕ) → dev < length blocks → dev < length sizes → get_or sizes dev 0 < get_or blocks dev 0
    → have_room (drop dev blocks) (drop dev sizes) ≡ false
no_room_here blocks sizes dev one other lower =
    room_step blocks sizes dev one other ∙ ap (λ test. test && have_room (drop (suc dev) blocks) (drop (suc dev) sizes)) (lt-leb (get_or blocks dev 0) (get_or sizes dev 0) lower)

-- After the last device nothing is left to fit.
pub room_end : (blocks sizes : List ℕ) (dev : ℕ) → length blocks ≤ dev → length sizes ≤ dev → have_room (drop dev blocks) (drop dev sizes) ≡ true
room_end blocks sizes dev one other = ap (λ (b : List ℕ). have_room b (drop dev sizes)) (drop_all dev blocks one) ∙ ap (λ (s : List ℕ). have_room [] s) (drop_all dev sizes other)
