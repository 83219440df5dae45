-- A release goes to the side where the node's pin is or would be.
use Rattle.std.proofs.Common.{rules, ℕ, ◌≡◌, ◌<◌, ◌+◌, ◌++◌, List, length, IsSome, is_some, if◌then◌else◌, vec_len, vec_capacity, sym, subst, ap, ◌∙◌, arith}
use Rattle.std.specs.Ordering.{nat_cmp}
use Rattle.vol_types.specs.Maps.{IsMap, value_at, without}
use Rattle.pin_list.proofs.Around.{around, shorter, looks_left, looks_right, looks_here, left_rises, right_rises, released_left, released_right, leaves_here, most-release}
use Rattle.pin_list.proofs.tree.Tree.+released.Goals as goal

pub released-requires : goal.released-requires
released-requires t c =
    let at = around c.open.ensures.same c.in-Some.is c.deref.ensures c.requires.rises in
    let took : c.take.result ≡ c.deref.result.now.left = search rules in
    let less = (shorter at).at_left in
    let len = ap (λ (d : List (ℕ × ℕ) × ℕ). length d.0) took in (
      omega arith,
      (
        subst (λ (d : List (ℕ × ℕ) × ℕ). IsMap nat_cmp d.0) (sym took) (left_rises at),
        (
          omega arith,
          subst (λ o. IsSome o → vec_len c.args.spares.now < vec_capacity c.args.spares.now) (looks_left c.args.node at c.if-node-deref.true ∙ ap (λ (d : List (ℕ × ℕ) × ℕ). value_at nat_cmp c.args.node d.0) (sym took)) c.requires.room,
        ),
      ),
    )

pub balanced-requires-clause-fits : goal.balanced-requires-clause-fits
balanced-requires-clause-fits t c =
    let at = around c.open.ensures.same c.in-Some.is c.deref.ensures c.requires.rises in
    let took : c.take.result ≡ c.deref.result.now.left = search rules in
    let same = c.deref_mut.ensures.value ∙ sym c.deref.ensures in
    let made = released_left c.args.node at c.if-node-deref.true c.deref_mut-then-node-deref.ensures.value same took c.released.ensures.pins in
    let most = most-release c.args.node c.args.self.0 in
    let fits : length (without nat_cmp c.args.node c.args.self.0) < 18446744073709551616 = omega arith in
    subst (λ (xs : List (ℕ × ℕ)). length xs < 18446744073709551616) (sym made) fits

pub returns-then-node-deref-clause-pins : goal.returns-then-node-deref-clause-pins
returns-then-node-deref-clause-pins t c =
    let at = around c.open.ensures.same c.in-Some.is c.deref.ensures c.requires.rises in
    let took : c.take.result ≡ c.deref.result.now.left = search rules in
    let same = c.deref_mut.ensures.value ∙ sym c.deref.ensures in
    c.balanced.ensures.pins ∙ released_left c.args.node at c.if-node-deref.true c.deref_mut-then-node-deref.ensures.value same took c.released.ensures.pins

pub returns-then-node-deref-clause-spares : goal.returns-then-node-deref-clause-spares
returns-then-node-deref-clause-spares t c =
    let at = around c.open.ensures.same c.in-Some.is c.deref.ensures c.requires.rises in
    let look = looks_left c.args.node at c.if-node-deref.true in
    cc

pub released-requires-then-deref-node : goal.released-requires-then-deref-node
released-requires-then-deref-node t c =
    let at = around c.open.ensures.same c.in-Some.is c.deref-2.ensures c.requires.rises in
    let took : c.take-then-deref-node.result ≡ c.deref-2.result.now.right = search rules in
    let less = (shorter at).at_right in
    let len = ap (λ (d : List (ℕ × ℕ) × ℕ). length d.0) took in (
      omega arith,
      (
        subst (λ (d : List (ℕ × ℕ) × ℕ). IsMap nat_cmp d.0) (sym took) (right_rises at),
        (
          omega arith,
          subst (λ o. IsSome o → vec_len c.args.spares.now < vec_capacity c.args.spares.now) (looks_right c.args.node at c.if-deref-node.true ∙ ap (λ (d : List (ℕ × ℕ) × ℕ). value_at nat_cmp c.args.node d.0) (sym took)) c.requires.room,
        ),
      ),
    )

pub balanced-requires-then-deref-node-clause-fits : goal.balanced-requires-then-deref-node-clause-fits
balanced-requires-then-deref-node-clause-fits t c =
    let at = around c.open.ensures.same c.in-Some.is c.deref-2.ensures c.requires.rises in
    let took : c.take-then-deref-node.result ≡ c.deref-2.result.now.right = search rules in
    let same = c.deref_mut-then-deref-node.ensures.value ∙ sym c.deref-2.ensures in
    let made = released_right c.args.node at c.if-deref-node.true c.deref_mut-then-deref-node-2.ensures.value same took c.released-then-deref-node.ensures.pins in
    let most = most-release c.args.node c.args.self.0 in
    let fits : length (without nat_cmp c.args.node c.args.self.0) < 18446744073709551616 = omega arith in
    subst (λ (xs : List (ℕ × ℕ)). length xs < 18446744073709551616) (sym made) fits

pub returns-then-deref-node-clause-pins : goal.returns-then-deref-node-clause-pins
returns-then-deref-node-clause-pins t c =
    let at = around c.open.ensures.same c.in-Some.is c.deref-2.ensures c.requires.rises in
    let took : c.take-then-deref-node.result ≡ c.deref-2.result.now.right = search rules in
    let same = c.deref_mut-then-deref-node.ensures.value ∙ sym c.deref-2.ensures in
    c.balanced-then-deref-node.ensures.pins ∙ released_right c.args.node at c.if-deref-node.true c.deref_mut-then-deref-node-2.ensures.value same took c.released-then-deref-node.ensures.pins

pub returns-then-deref-node-clause-spares : goal.returns-then-deref-node-clause-spares
returns-then-deref-node-clause-spares t c =
    let at = around c.open.ensures.same c.in-Some.is c.deref-2.ensures c.requires.rises in
    let look = looks_right c.args.node at c.if-deref-node.true in
    cc

pub push_reserved-requires : goal.push_reserved-requires
push_reserved-requires t c =
    let at = around c.open.ensures.same c.in-Some.is c.deref.ensures c.requires.rises in
    let same : c.args.node ≡ c.deref.result.now.node = search rules in
    c.requires.room (ap is_some (looks_here c.args.node at same))

pub returns-clause-pins : goal.returns-clause-pins
returns-clause-pins t c =
    let at = around c.open.ensures.same c.in-Some.is c.deref.ensures c.requires.rises in
    let same : c.args.node ≡ c.deref.result.now.node = search rules in
    let left : c.take-left.result ≡ c.deref.result.now.left = search rules in
    let right : c.take-right.result ≡ c.deref.result.now.right = search rules in
    c.joined.ensures.pins ∙ ap (λ (d : List (ℕ × ℕ) × ℕ). d.0 ++ c.take-right.result.0) left ∙ ap (λ (d : List (ℕ × ℕ) × ℕ). c.deref.result.now.left.0 ++ d.0) right ∙ sym (leaves_here c.args.node at same)

pub returns-clause-spares : goal.returns-clause-spares
returns-clause-spares t c =
    let at = around c.open.ensures.same c.in-Some.is c.deref.ensures c.requires.rises in
    let same : c.args.node ≡ c.deref.result.now.node = search rules in
    c.push_reserved.ensures.len ∙ ap (λ o. if is_some o then vec_len c.args.spares.now + 1 else vec_len c.args.spares.now) (sym (looks_here c.args.node at same))
