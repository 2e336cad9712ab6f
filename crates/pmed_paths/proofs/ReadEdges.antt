-- The edges of a file, one behind the other, and the network that they make.
use Rattle.std.proofs.Common.{◌≡◌, ℕ, suc, ◌+◌, ◌-◌, ◌<◌, List, [], ◌∷◌, ◌++◌, Result, Ok, Err, refl, sym, ap, subst, ◌∙◌, arith, BTreeMap}
use Rattle.std.specs.FinMap.{from_entries}
use Rattle.location_terms.specs.Instance.{pair_cmp}
use Rattle.fixed_cost.specs.declared.fault.FileFault.{FileFault}
use Rattle.fixed_cost.specs.declared.fault.FormFault.{FormFault}
use Rattle.fixed_cost.specs.declared.fault.FormFault.TheVariants as form
use Rattle.fixed_cost.specs.Reading.{Rest, ◌>>=◌, many_at, finished, FailsAs}
use Rattle.fixed_cost.proofs.ReadSteps.{with_front, many_at-next, many_at-fails, many_at-done, many_at-start}
use Rattle.fixed_cost.proofs.ReadFacts.{finished-err, finished-ok}
use Rattle.pmed_paths.specs.Network.{Edges, AreEdges, IsLine, network_of}
use Rattle.pmed_paths.specs.Pmed.{edge_at, edges_at, edges_of, head_at, network_at}
use Rattle.pmed_paths.specs.Stored.{edges_in, with_edge}
use Rattle.pmed_paths.proofs.Trees.{edges_of-more, with_edge-within, none-within}

-- the first k of so many edges were read
pub record AreRead (last k count : ℕ) (start now : Rest) (edges : Edges) : Type 0 where
  pub within : AreEdges last edges
  pub front : List ((ℕ × ℕ) × ℕ)
  pub same : edges ≡ edges_of front
  pub goes : with_front front (many_at (λ _. edge_at last) k (count - k) now) ≡ many_at (λ _. edge_at last) 0 count start

pub read-start : (last count : ℕ) (start : Rest) (t : BTreeMap (ℕ × ℕ) ℕ) → t.entries ≡ [] → AreRead last 0 count start start (edges_in t)
read-start last count start t none = record {
  within = none-within last t none;
  front = [];
  same = ap (λ es. from_entries {R = pair_cmp} es) none;
  goes = let whole : count - 0 ≡ count = omega arith in rw whole (many_at-start (many_at (λ _. edge_at last) 0 count start));
}

pub read-more : (last k count : ℕ) (start now after : Rest) (edges more : Edges) (a b cost : ℕ) → k < count → edge_at last now ≡ Ok (((a, b), cost), after) → IsLine last a b cost → more ≡ with_edge edges a b cost → AreRead last k count start now edges → AreRead last (k + 1) count start after more
read-more last k count start now after edges more a b cost below read line is are =
    let one_more : count - k ≡ suc (count - (k + 1)) = omega (arith, below) in
    record {
      within = subst (AreEdges last) (sym is) (with_edge-within last edges a b cost are.within line);
      front = are.front ++ ((a, b), cost) ∷ [];
      same = is ∙ ap (λ m. with_edge m a b cost) are.same ∙ sym (edges_of-more are.front a b cost);
      goes = many_at-next (λ _. edge_at last) are.front k (count - k) (count - (k + 1)) now ((a, b), cost) after (many_at (λ _. edge_at last) 0 count start) one_more read are.goes;
    }

fails-on : {A B : Type 0} (e : FormFault) (read : Result A FileFault) (next : A → Result B FileFault) → FailsAs e read → FailsAs e (read >>= next)
fails-on form.NoMemory read next fails = tt
fails-on (form.File f) read next fails = rw fails refl

pub read-fails : (last k count : ℕ) (start now : Rest) (edges : Edges) (e : FormFault) → k < count → FailsAs e (edge_at last now) → AreRead last k count start now edges → FailsAs e (edges_at last count start)
unfolding edges_at
read-fails last k count start now edges e below fails are =
    let one_more : count - k ≡ suc (count - (k + 1)) = omega (arith, below) in
    fails-on e (many_at (λ _. edge_at last) 0 count start) (λ read. Ok (edges_of read.0, read.1)) (many_at-fails (λ _. edge_at last) are.front k (count - k) (count - (k + 1)) now e (many_at (λ _. edge_at last) 0 count start) one_more fails are.goes)

pub read-done : (last k count : ℕ) (start now : Rest) (edges : Edges) → count - k ≡ 0 → AreRead last k count start now edges → edges_at last count start ≡ Ok (edges, now)
unfolding edges_at
read-done last k count start now edges none are =
    let whole = many_at-done (λ _. edge_at last) are.front k (count - k) now (many_at (λ _. edge_at last) 0 count start) none are.goes in
    rw whole (ap (λ m. Ok (m, now)) (sym are.same))

module _ (r : Rest) (vertices count medians : ℕ) (behind_head : Rest) (edges : Edges) (behind : Rest) (head : head_at r ≡ Ok ((vertices, count, medians), behind_head)) (body : edges_at vertices count behind_head ≡ Ok (edges, behind)) where
  to_end : network_at r ≡ finished (network_of vertices medians edges) behind
  unfolding network_at
  to_end = rw (head, body) refl

  -- a word is left
  pub trails : (f : FileFault) → finished {A = Unit {0}} (tt {0}) behind ≡ Err f → network_at r ≡ Err f
  trails f e = to_end ∙ finished-err (tt {0}) (network_of vertices medians edges) behind f e

  -- no word is left
  pub ends : finished {A = Unit {0}} (tt {0}) behind ≡ Ok (tt {0}) → network_at r ≡ Ok (network_of vertices medians edges)
  ends e = to_end ∙ finished-ok (tt {0}) (tt {0}) (network_of vertices medians edges) behind e
