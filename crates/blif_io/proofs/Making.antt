-- Edits made in turn.
use Rattle.std.proofs.Common.{◌≡◌, ℕ, ◌+◌, ◌<◌, ◌≤◌, List, [], ◌∷◌, ◌++◌, map, length, get_or, drop, Some, None, Ok, Err, Option, Result, sym, refl, ap, ◌∙◌, subst, append_assoc, arith}
use Rattle.std.proofs.lemmas.List.{drop_all, at_drop_more, append-nil}
use Rattle.text.specs.declared.words.Word.{Word}
use Rattle.names.specs.Names.{spellings}
use Rattle.netlist.specs.declared.edit.Edit.{Edit}
use Rattle.netlist.specs.declared.edit.Refusal.{Refusal}
use Rattle.netlist.specs.Edits.{signal_of}
use Rattle.editor.specs.declared.call.Call.TheVariants.{Make}
use Rattle.editor.specs.Log.{Entry}
use Rattle.desk.specs.State.{State}
use Rattle.desk.specs.Plays.{Plays as PlaysCall}
use Rattle.blif_io.specs.declared.place.Refused.{Refused}
use Rattle.blif.specs.Statement.{Name}
use Rattle.blif.specs.Calls.{Made, all, accepted, refused}
use Rattle.blif.specs.Chain.{Chain}
use Rattle.blif_io.specs.Taking.{Plays, Replied}

pub chain-append : (d mid d' : State) (a b : List Entry) → Chain d a mid → Chain mid b d' → Chain d (a ++ b) d'
chain-append d mid d' [] b h k = subst (λ x. Chain x b d') h k
chain-append d mid d' (x ∷ a) b h k = (h.0, h.1, chain-append h.0 mid d' a b h.2 k)

abbrev pub step : Edit → Result ℕ Refusal → Entry
step e r = record { call = Make e; reply = r }

-- of the edits of words, those of the first so many are made, with this sum of counts
pub record Half (f : Name → Edit) (d : State) (words : List Word) (i sum : ℕ) (mid : State) : Type 0 where
  pub own : List Entry
  pub chain : Chain d own mid
  pub on : (later : List Entry) (total : ℕ) (end : Option (Refusal × ℕ)) → Made (map f (spellings (drop i words))) later total end → Made (map f (spellings words)) (own ++ later) (sum + total) end

pub half-start : (f : Name → Edit) (d : State) (words : List Word) → Half f d words 0 0 d
half-start f d words = record { own = []; chain = refl; on = λ later total end h. subst (λ s. Made (map f (spellings words)) later s end) (omega arith) h }

module _ (f : Name → Edit) (d mid d' : State) (words : List Word) (i sum : ℕ) (w : Word) (h : Half f d words i sum mid) where
  module _ (e : Edit) (inside : i < length words) (is : f (get_or words i w).bytes.now ≡ e) where
    first : (later : List Entry) (total : ℕ) (end : Option (Refusal × ℕ)) → Made (e ∷ map f (spellings (drop (i + 1) words))) later total end → Made (map f (spellings (drop i words))) later total end
    first later total end k =
        subst (λ es. Made es later total end) (sym (at_drop_more (λ ws. map f (spellings ws)) words i w inside ∙ ap (λ x. x ∷ map f (spellings (drop (i + 1) words))) is)) k

    pub half-more : (reply : Result ℕ Refusal) (told : ℕ) → PlaysCall mid (Make e) d' reply → Replied e reply (Ok told) → Half f d words (i + 1) (sum + told) d'
    half-more (Ok count) told p r = record {
      own = h.own ++ step e (Ok count) ∷ [];
      chain = chain-append d mid d' h.own (step e (Ok count) ∷ []) h.chain (d', p, refl);
      on = λ later total end k.
          let made = h.on (step e (Ok count) ∷ later) (count + total) end (first (step e (Ok count) ∷ later) (count + total) end (accepted count k)) in
          subst (λ s. Made (map f (spellings words)) ((h.own ++ step e (Ok count) ∷ []) ++ later) s end) (omega (arith, r))
          (subst (λ l. Made (map f (spellings words)) l (sum + (count + total)) end) (sym (append_assoc h.own (step e (Ok count) ∷ []) later)) made);
    }
    half-more (Err nay) told p r = absurd r

    pub half-stops : (reply : Result ℕ Refusal) (x : Refused) → PlaysCall mid (Make e) d' reply → Replied e reply (Err x) → Plays d (map f (spellings words)) d' (Err x)
    half-stops (Ok count) x p r = absurd r
    half-stops (Err nay) x p r =
        let made = h.on (step e (Err nay) ∷ []) 0 (Some (nay, signal_of e)) (first (step e (Err nay) ∷ []) 0 (Some (nay, signal_of e)) (refused nay)) in (
          h.own ++ step e (Err nay) ∷ [],
          sum + 0,
          chain-append d mid d' h.own (step e (Err nay) ∷ []) h.chain (d', p, refl),
          subst (λ q. Made (map f (spellings words)) (h.own ++ step e (Err nay) ∷ []) (sum + 0) (Some q)) (ap (λ a. (a, signal_of e)) (sym r.0) ∙ ap (λ b. (x.refusal, b)) (sym r.1)) made,
        )

pub half-all : (f : Name → Edit) (d mid : State) (words : List Word) (i sum : ℕ) → Half f d words i sum mid → length words ≤ i → Plays d (map f (spellings words)) mid (Ok sum)
half-all f d mid words i sum h past =
    let made = h.on [] 0 None (subst (λ ws. Made (map f (spellings ws)) [] 0 None) (sym (drop_all i words past)) all) in
    (h.own, h.chain, subst (λ l. Made (map f (spellings words)) l sum None) (append-nil h.own) (subst (λ s. Made (map f (spellings words)) (h.own ++ []) s None) (omega arith) made))

-- one edit
pub one-made : (e : Edit) (d d' : State) (reply : Result ℕ Refusal) (told : ℕ) → PlaysCall d (Make e) d' reply → Replied e reply (Ok told) → Plays d (e ∷ []) d' (Ok told)
one-made e d d' (Ok count) told p r = (step e (Ok count) ∷ [], (d', p, refl), subst (λ s. Made (e ∷ []) (step e (Ok count) ∷ []) s None) (omega (arith, r)) (accepted count all))
one-made e d d' (Err nay) told p r = absurd r

pub one-stops : (e : Edit) (d d' : State) (reply : Result ℕ Refusal) (x : Refused) → PlaysCall d (Make e) d' reply → Replied e reply (Err x) → Plays d (e ∷ []) d' (Err x)
one-stops e d d' (Ok count) x p r = absurd r
one-stops e d d' (Err nay) x p r = (
  step e (Err nay) ∷ [],
  0,
  (d', p, refl),
  subst (λ q. Made (e ∷ []) (step e (Err nay) ∷ []) 0 (Some q)) (ap (λ a. (a, signal_of e)) (sym r.0) ∙ ap (λ b. (x.refusal, b)) (sym r.1)) (refused nay),
)
