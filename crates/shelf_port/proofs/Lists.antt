-- Lists taken in pieces.
use Rattle.std.proofs.Common.{◌≡◌, ℕ, ◌+◌, ◌≤◌, List, ◌++◌, take, drop, arith, sym, ap, ◌∙◌}
use Rattle.std.proofs.lemmas.List.{take-append-drop, take-take, drop-take}

-- the first n + m items are the first n, and the first m of the rest
pub take-add : {X : Type 0} (n m : ℕ) (xs : List X) → take (n + m) xs ≡ take n xs ++ take m (drop n xs)
take-add n m xs =
    let within : n ≤ n + m = omega arith in
    sym (take-append-drop n (take (n + m) xs))
    ∙ ap (λ front. front ++ drop n (take (n + m) xs)) (take-take n (n + m) xs within)
    ∙ ap (λ rest. take n xs ++ rest) (drop-take n m xs)
