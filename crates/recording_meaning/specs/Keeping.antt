-- Events keep a history in shape.
use Rattle.std.specs.Prelude.{ℕ, ◌+◌, ◌<◌, ◌≡◌, set, eqb, Some, None, Ok}
use Rattle.std.proofs.Math.Path.{refl, sym, ap}
use Rattle.std.proofs.Common.{◌∙◌, length-set, arith}
use Rattle.std.proofs.Math.Bool.{true, false}
use mathlib.Core.List.{List, [], ◌∷◌}
use Rattle.std.proofs.Math.ListN.{get_or}
use Rattle.std.proofs.Math.Seq.{get_or-set_same, get_or-set_other}
use borrow.Author.Tests.{eq-eqb, ne_eqb}
use Rattle.history.specs.Lists.{own_or_other}
use Rattle.values.specs.Value.{pick}
use Rattle.values.specs.Sizes.{threads, capacity}
use Rattle.families.specs.Refusals.{op_belongs, ret_belongs}
use Rattle.families.specs.Room.{clear_yes}
use Rattle.families.specs.declared.Kind.{Kind}
use Rattle.families.specs.declared.Op.{Op}
use Rattle.families.specs.declared.Ret.{Ret}
use Rattle.stepping.specs.declared.histories.Operation.{Operation}
use Rattle.stepping.specs.declared.histories.History.{History}
use Rattle.stepping.specs.Record.{operation, held, is_pending, invalidated, extended, completed}
use Rattle.stepping.specs.Shape.{kind_of, count_done, outcome_fits, operation_fits, operations_fit, flying_last}
use Rattle.recording_meaning.specs.Reading.{Sized}
use Rattle.recording_meaning.specs.Held.{held_extended, flies, Found, held_completed}
use Rattle.recording_meaning.specs.Parts.{pick_left, pick_right, pick_both, operation_parts, operation_fits_lem, Parts}
use Rattle.recording_meaning.specs.Exchanges.{fit_append, last_new, last_exchange, done_new, done_exchange}

-- an operation of one of the threads, and the object's own

new_fits : (k : Kind) (t : ℕ) (op : Op) → t < threads → op_belongs k op ≡ Ok tt → operation_fits k (operation t op None) ≡ true
unfolding outcome_fits
new_fits k t op l e = operation_fits_lem k (operation t op None) (record { known = l; own = e; answered = refl })

returned_fits : (k : Kind) (t : ℕ) (o : Operation) (ret : Ret) → t < threads → operation_fits k o ≡ true → ret_belongs k ret ≡ Ok tt
    → operation_fits k (operation t o.op (Some ret)) ≡ true
unfolding outcome_fits
returned_fits k t o ret l w e =
    operation_fits_lem k (operation t o.op (Some ret))
    (record { known = l; own = (operation_parts k o w).own; answered = (clear_yes (ret_belongs k ret)).1 e })

module _ (h : History) (w : Parts h) where
  pub keeps_invalidated : Parts (invalidated h)
  keeps_invalidated = record { few = w.few; startable = w.startable; fit = w.fit; last = w.last; counted = w.counted }

  module _ (z : Sized h) (t : ℕ) (l : t < threads) where
    pub keeps_extended : (op : Op) → h.count < capacity → op_belongs (kind_of h) op ≡ Ok tt → flies t (held h) ≡ false → Parts (extended h t op)
    unfolding operations_fit
    keeps_extended op m e f =
        let s = held_extended h t op z m in
        record {
          few = omega arith;
          startable = w.startable;
          fit = rw (s, fit_append (kind_of h) (held h) (operation t op None ∷ []), w.fit, new_fits (kind_of h) t op l e);
          last = rw s (last_new (operation t op None) (held h) w.last f);
          counted = λ u k. w.counted u k ∙ rw s (sym (done_new u (operation t op None) (held h) refl));
        }

    pub keeps_completed : (ret : Ret) {i : ℕ} → ret_belongs (kind_of h) ret ≡ Ok tt → Found t (held h) i → Parts (completed h i t ret)
    unfolding operations_fit is_pending
    keeps_completed ret {i} e v =
        let s = held_completed h ret v in
        let o : Operation = operation t v.one.op (Some ret) in
        let a : pick (operations_fit (kind_of h) v.before) (operations_fit (kind_of h) (v.one ∷ v.after)) false ≡ true
        = sym (fit_append (kind_of h) v.before (v.one ∷ v.after)) ∙ ap (operations_fit (kind_of h)) (sym v.split) ∙ w.fit in
        let b = pick_right (operations_fit (kind_of h) v.before) _ a in
        let c : (u : ℕ) → count_done u (held (completed h i t ret)) ≡ count_done u (held h) + pick (eqb t u) 1 0
        = λ u. ap (count_done u) s ∙ done_exchange t u v.one ret v.before v.after v.in_flight
        ∙ ap (λ (l : List Operation). count_done u l + pick (eqb t u) 1 0) (sym v.split) in
        record {
          few = w.few;
          startable = w.startable;
          fit = rw (s, fit_append (kind_of h) v.before (o ∷ v.after))
              (pick_both (operations_fit (kind_of h) v.before) _ (pick_left (operations_fit (kind_of h) v.before) _ a)
              (pick_both (operation_fits (kind_of h) o) _ (returned_fits (kind_of h) t v.one ret l (pick_left (operation_fits (kind_of h) v.one) _ b) e)
              (pick_right (operation_fits (kind_of h) v.one) _ b)));
          last = rw s (last_exchange v.one o v.before v.after (sym v.own) refl (ap flying_last (sym v.split) ∙ w.last));
          counted = own_or_other (λ u. u < threads → get_or (set h.done t (get_or h.done t 0 + 1)) u 0 ≡ count_done u (held (completed h i t ret))) t
              (λ k. get_or-set_same h.done t _ 0 (omega (arith, z.counters)) ∙ rw (c t, w.counted t l, eq-eqb t t refl))
              (λ u d k. get_or-set_other h.done t u _ 0 d ∙ rw (c u, w.counted u k, ne_eqb t u (λ y. d (sym y))) (omega arith));
        }

-- the lengths stay

pub sized_extended : (h : History) (t : ℕ) (op : Op) → Sized h → Sized (extended h t op)
sized_extended h t op z = record { places = length-set h.ops h.count _ ∙ z.places; counters = z.counters }

pub sized_completed : (h : History) (i t : ℕ) (ret : Ret) → Sized h → Sized (completed h i t ret)
sized_completed h i t ret z = record { places = length-set h.ops i _ ∙ z.places; counters = length-set h.done t _ ∙ z.counters }

pub sized_invalidated : (h : History) → Sized h → Sized (invalidated h)
sized_invalidated h z = record { places = z.places; counters = z.counters }
