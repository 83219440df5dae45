-- Nothing is acknowledged before the first moment.
use Rattle.std.proofs.Common.{◌≡◌, ◌<◌, ◌≤◌, ℕ, Bool, cond, List, [], ◌∷◌, refl, ap, ◌∙◌, arith}
use Rattle.std.specs.Prelude.{max}
use Rattle.std.proofs.lemmas.Bool.{lt-leb}
use Rattle.forest_ops.specs.Acknowledged.{RiseWithin, acknowledged}
use Rattle.forest_ops.specs.declared.acks.Ack.{Ack}

pub none_before : (first last moment : ℕ) (acks : List Ack) → moment < first → RiseWithin first last acks → acknowledged acks moment ≡ 0
none_before first last moment [] before rise = refl
none_before first last moment (ack ∷ acks) before rise =
    let later : moment < ack.moment = (let from : first ≤ ack.moment = rise.0 in omega (arith, before, from)) in
    ap (λ (b : Bool). max (cond {A = ℕ} b ack.commits 0) (acknowledged acks moment)) (lt-leb ack.moment moment later) ∙ ap (max 0) (none_before ack.moment last moment acks later rise.1)
