-- One site more with the lanes of its column, and one lane more of a column.
use Rattle.std.proofs.Common.{◌≡◌, ℕ, ◌+◌, ◌<◌, List, [], ◌∷◌, ◌++◌, map, length, take, Option, None, slice_index_or, get_or, sym, ap, ◌∙◌, arith}
use Rattle.std.specs.List.{range_with_len, zip}
use Rattle.std.proofs.lemmas.List.{get_or-map, length-map, take_more}
use Rattle.std.proofs.lemmas.List.FromFn.{length-range_with_len, get_or-range_with_len}
use Rattle.std.proofs.lemmas.Slice.Zip.{get_or-zip}
use Rattle.instance_store.specs.declared.numbered.ListedSite.{ListedSite}
use Rattle.instance_store.specs.declared.numbered.SiteLanes.{SiteLanes}
use Rattle.instance_store.specs.declared.numbered.CustLanes.{CustLanes}
use Rattle.instance_store.specs.Numbered.{column_at, columns_of}
use Rattle.instance_store.proofs.NumberedLists.{length-counted}

module _ (sites : List ListedSite) (custs : List CustLanes) where
  pub length-columns_of : length (columns_of sites custs) ≡ length sites
  length-columns_of = length-map (zip (range_with_len 0 (length sites)) sites) _ ∙ length-counted 0 sites

  pub columns_more : (i : ℕ) (s : ListedSite) (row : List (Option ℕ)) → i < length sites → s ≡ get_or sites i s → row ≡ column_at i custs → take i (columns_of sites custs) ++ record { site = s; lanes = row } ∷ [] ≡ take (i + 1) (columns_of sites custs)
  columns_more i s row within item is =
      let one : SiteLanes = record { site = s; lanes = row } in
      let by_column : ℕ × ListedSite → SiteLanes = λ p. record { site = p.1; lanes = column_at p.0 custs } in
      let place : get_or (range_with_len 0 (length sites)) i 0 ≡ i = omega (arith, get_or-range_with_len 0 (length sites) i 0 within) in
      let pair : get_or (zip (range_with_len 0 (length sites)) sites) i (0, s) ≡ (get_or (range_with_len 0 (length sites)) i 0, get_or sites i s) = get_or-zip (range_with_len 0 (length sites)) sites i (0, s) (omega (arith, within, length-range_with_len 0 (length sites))) within in
      let site : get_or sites i s ≡ s = sym item in
      let lanes : column_at (get_or (range_with_len 0 (length sites)) i 0) custs ≡ row = ap (λ j. column_at j custs) place ∙ sym is in
      let at : get_or (columns_of sites custs) i one ≡ one =
      get_or-map by_column (zip (range_with_len 0 (length sites)) sites) i (0, s) one (omega (arith, within, length-counted 0 sites))
      ∙ ap by_column pair
      ∙ (λ k. record { site = site k; lanes = lanes k }) in
      sym (take_more (columns_of sites custs) i one (omega (arith, within, length-columns_of)) ∙ ap (λ x. take i (columns_of sites custs) ++ x ∷ []) at)

pub column_more : (i : ℕ) (custs : List CustLanes) (k : ℕ) (x : CustLanes) → k < length custs → x ≡ get_or custs k x → take k (column_at i custs) ++ slice_index_or x.lanes i None ∷ [] ≡ take (k + 1) (column_at i custs)
column_more i custs k x within item =
    let lane : CustLanes → Option ℕ = λ c. slice_index_or c.lanes i None in
    sym (take_more (map lane custs) k (lane x) (omega (arith, within, length-map custs lane)) ∙ ap (λ y. take k (map lane custs) ++ y ∷ []) (get_or-map lane custs k x (lane x) within ∙ ap lane (sym item)))
