-- What an output gains, text behind text.
use Rattle.std.proofs.Common.{◌≡◌, ℕ, ◌≤◌, List, [], ◌++◌, Option, None, Some, refl, sym, ap, ◌∙◌, subst, arith, append_assoc, append-nil, inl, inr}
use Rattle.shelf_port.specs.Files.{Rose, one_more}
use Rattle.shelf_port.specs.Streams.{with_back, RefusedLast}
use Rattle.shelf_port.specs.Ports.{SinkState}
use Rattle.dualoc_cli.specs.Talk.{GainsWhole}

pub back_more : (told : Option (List ℕ)) (xs ys : List ℕ) → with_back (with_back told xs) ys ≡ with_back told (xs ++ ys)
back_more None xs ys = refl
back_more (Some front) xs ys = ap Some (append_assoc front xs ys)

pub gains_more : (row reply : List ℕ) (old mid new : SinkState) → GainsWhole row old mid → GainsWhole reply mid new → GainsWhole (row ++ reply) old new
gains_more row reply old mid new so_far more =
    record {
      gained = more.gained ∙ ap (λ t. with_back t reply) so_far.gained ∙ back_more old.written row reply;
      none_refused = more.none_refused ∙ so_far.none_refused;
      counts = omega (arith, more.counts, so_far.counts);
    }

pub gains_none : (row reply : List ℕ) (old mid new : SinkState) → GainsWhole row old mid → GainsWhole reply mid new → reply ≡ [] → GainsWhole row old new
gains_none row reply old mid new so_far more none =
    subst (λ r. GainsWhole r old new) (ap (λ r. row ++ r) none ∙ append-nil row) (gains_more row reply old mid new so_far more)

pub rose_since : (a b c : ℕ) → a ≤ b → Rose b c → Rose a c
rose_since a b c since rose = elim rose [ inl above ↦ inl (omega (arith, above, since)) | inr full ↦ inr full ]

pub refused_since : (old mid new : SinkState) → mid.refusals.count ≡ old.refusals.count → RefusedLast mid.refusals new.refusals → RefusedLast old.refusals new.refusals
refused_since old mid new same refused = record { once = subst (λ n. new.refusals.count ≡ one_more n) same refused.once; last = refused.last }

written_first : (told : Option (List ℕ)) → told ≡ with_back told []
written_first None = refl
written_first (Some front) = ap Some (sym (append-nil front))

pub none_gained : (out : SinkState) → GainsWhole [] out out
none_gained out = record { gained = written_first out.written; none_refused = refl; counts = omega arith }
