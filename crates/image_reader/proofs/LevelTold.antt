-- What was read of a level so far, and what its rest gives, is what the whole level gives; and so for the children of its nodes.
use Rattle.std.proofs.Common.{◌≡◌, Bool, cond, ◌&&◌, List, [], ◌∷◌, ◌++◌, Option, None, Some, Result, Ok, Err, refl, ap, sym, ◌∙◌, append_assoc, is_some}
use Rattle.std.specs.Prelude.{unwrap_or}
use Rattle.std.specs.List.{filter_map, list_all}
use Rattle.image_view.specs.Trees.{NodeRead, SetsOf, Wanted, each_of, read_level, read_node}
use Rattle.key_codec.specs.Formats.{◌>>=◌}
use Rattle.tree_nodes.specs.Levels.{Level}
use Rattle.vol_types.specs.Positions.{greatest_pos, next_pos}
use Rattle.vol_types.specs.declared.keys.Update.{Update}
use Rattle.vol_types.specs.declared.pointers.NodePtr.{NodePtr}
use Rattle.vol_types.specs.declared.pointers.Place.{Place}
use Rattle.vol_types.specs.declared.positions.Btree.{Btree}
use Rattle.vol_types.specs.declared.positions.Pos.{Pos}

-- what comes, behind what was done
abbrev pub behind_done : {F X : Type 0} → List X → Result (List X) F → Result (List X) F
behind_done done rest = rest >>= (λ others. Ok (done ++ others))

-- One more was done.
pub done_more : {F X : Type 0} (done : List X) (x : X) (rest : Result (List X) F) → behind_done done (rest >>= (λ others. Ok (x ∷ others))) ≡ behind_done (done ++ x ∷ []) rest
done_more done x (Ok others) = ap (λ xs. Ok xs) (sym (append_assoc done (x ∷ []) others))
done_more done x (Err fault) = refl

module _ (sets : SetsOf) (updates : List Update) (btree : Btree) (least : Pos) (node : Pos × NodePtr) (nodes : Level) (done : List NodeRead) where
  -- the first node as it is looked for
  abbrev first_wanted : Wanted
  first_wanted = record { btree = btree; least = least; greatest = node.0; pointer = node.1 }

  -- the nodes behind it
  abbrev nodes_behind : Result (List NodeRead) Place
  nodes_behind = read_level sets updates btree (unwrap_or (next_pos node.0) greatest_pos) nodes

  -- One node more was read.
  pub level_more : (read : NodeRead) → read_node sets updates first_wanted ≡ Ok read
      → behind_done done (read_level sets updates btree least (node ∷ nodes)) ≡ behind_done (done ++ read ∷ []) nodes_behind
  level_more read is = ap (λ r. behind_done done (r >>= (λ first. nodes_behind >>= (λ others. Ok (first ∷ others))))) is ∙ done_more done read nodes_behind

  -- The first node is bad.
  pub level_bad : (place : Place) → read_node sets updates first_wanted ≡ Err place → behind_done done (read_level sets updates btree least (node ∷ nodes)) ≡ Err place
  level_bad place is = ap (λ r. behind_done done (r >>= (λ first. nodes_behind >>= (λ others. Ok (first ∷ others))))) is

-- what a function finds at each member, where it finds something at all of them
module _ {X Y F : Type 0} (h : X → Option Y) (fault : F) where
  -- what it finds at those that are left, behind what was found, if the end is right too
  abbrev pub found_from : Bool → List Y → List X → Result (List Y) F
  found_from ends done rest = cond (list_all (λ x. is_some (h x)) rest && ends) (Ok (done ++ filter_map h rest)) (Err fault)

  pub found_more : (ends : Bool) (done : List Y) (x : X) (rest : List X) (y : Y) → h x ≡ Some y → found_from ends done (x ∷ rest) ≡ found_from ends (done ++ y ∷ []) rest
  found_more ends done x rest y is = rw is (ap (λ (ys : List Y). cond (list_all (λ x. is_some (h x)) rest && ends) (Ok ys) (Err fault)) (sym (append_assoc done (y ∷ []) (filter_map h rest))))

  pub found_none : (ends : Bool) (done : List Y) (x : X) (rest : List X) → h x ≡ None → found_from ends done (x ∷ rest) ≡ Err fault
  found_none ends done x rest is = rw is refl

-- each member of a list, behind what was done
module _ {F A B : Type 0} (f : A → Result B F) (done : List B) (x : A) (xs : List A) where
  pub each_more : (y : B) → f x ≡ Ok y → behind_done done (each_of f (x ∷ xs)) ≡ behind_done (done ++ y ∷ []) (each_of f xs)
  each_more y is = ap (λ r. behind_done done (r >>= (λ y. each_of f xs >>= (λ ys. Ok (y ∷ ys))))) is ∙ done_more done y (each_of f xs)

  pub each_bad : (fault : F) → f x ≡ Err fault → behind_done done (each_of f (x ∷ xs)) ≡ Err fault
  each_bad fault is = ap (λ r. behind_done done (r >>= (λ y. each_of f xs >>= (λ ys. Ok (y ∷ ys))))) is
