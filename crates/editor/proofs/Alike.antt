-- Editors of one M whose stores tell equal words, equal D and as many open levels reply alike.
use Rattle.std.proofs.Common.{◌≡◌, ℕ, zero, suc, Ok, Err, Result, sym, refl, ap, ◌∙◌, subst₂, ⊎_elim, arith}
use mathlib.Core.Path.{subst₃}
use Rattle.std.proofs.lemmas.Bool.{cases_order}
use Rattle.words.specs.Meaning.{Meaning, levels}
use Rattle.netlist.specs.declared.edit.Edit.{Edit}
use Rattle.netlist.specs.declared.edit.Refusal.{Refusal}
use Rattle.netlist.specs.Refusals.{number}
use Rattle.netlist.specs.Edits.{Edits}
use Rattle.netlist.proofs.Determined.{edits_determined, same-refusal}
use Rattle.board.specs.Board.{netlist_of, board_of}
use Rattle.editor.specs.declared.call.Call.{Call}
use Rattle.editor.specs.declared.call.Call.TheVariants.{Begin, Mark, KeepMark, DropMark, Keep, Drop, Make}
use Rattle.editor.specs.Calls.{RefusedWith, Declines, Refuses, Replies, Serves}
use Rattle.editor.specs.Laws.{TellAlike, EqualWordsReplyAlike}
use Rattle.editor.specs.Questions.{Says}
use Rattle.editor.proofs.Answered.{says_one}

module _ (m : ℕ) (a b a' b' : Meaning) (image : a.image ≡ b.image) (limit : a.limit ≡ b.limit) (open' : levels a ≡ levels b) where
  forth : (c : Call) (k : ℕ) → Refuses m a c k → Refuses m b c k
  forth c k h = subst₃ (λ d v ws. Declines m d v (netlist_of m ws) c k) limit open' image h

  back : (c : Call) (k : ℕ) → Refuses m b c k → Refuses m a c k
  back c k h = subst₃ (λ d v ws. Declines m d v (netlist_of m ws) c k) (sym limit) (sym open') (sym image) h

  same_made : (e : Edit) (p q : ℕ) → Replies m a (Make e) a' (Ok p) → Replies m b (Make e) b' (Ok q) → ◌≡◌ {A = Result ℕ Refusal} (Ok p) (Ok q)
  same_made e p q (none, (inside, net, puts)) (none', (inside', net', puts')) =
      let one : Edits m (levels a) (board_of m a.image) e (board_of m a'.image) (Ok p) = (none, net, puts) in
      let two : Edits m (levels a) (board_of m a.image) e (board_of m b'.image) (Ok q) =
      subst₂ (λ v ws. Edits m v (board_of m ws) e (board_of m b'.image) (Ok q)) (sym open') (sym image) (none', net', puts') in
      (edits_determined m (levels a) (board_of m a.image) e (board_of m a'.image) (board_of m b'.image) (Ok p) (Ok q) one two).1

  same_count : (c : Call) (p q : ℕ) → Replies m a c a' (Ok p) → Replies m b c b' (Ok q) → ◌≡◌ {A = Result ℕ Refusal} (Ok p) (Ok q)
  same_count Begin p q h g = ap Ok (h.1.1 ∙ sym g.1.1)
  same_count Mark p q h g = ap Ok (h.1.1 ∙ sym g.1.1)
  same_count KeepMark p q h g = ap Ok (h.1.1 ∙ sym g.1.1)
  same_count DropMark p q h g = ap Ok (h.1.1 ∙ sym g.1.1)
  same_count Keep p q h g = ap Ok (h.1.1 ∙ sym g.1.1)
  same_count Drop p q h g = ap Ok (h.1.1 ∙ sym g.1.1)
  same_count (Make e) p q h g = same_made e p q h g

  same_reply : (c : Call) (r t : Result ℕ Refusal) → Replies m a c a' r → Replies m b c b' t → r ≡ t
  same_reply c (Ok p) (Ok q) h g = same_count c p q h g
  same_reply c (Ok p) (Err t) h g = absurd (h.0 (number t) (back c (number t) g.0))
  same_reply c (Err r) (Ok q) h g = absurd (g.0 (number r) (forth c (number r) h.0))
  same_reply c (Err r) (Err t) h g =
      ⊎_elim
      (λ same. ap Err (same-refusal r t same))
      (⊎_elim
      (λ less. absurd (g.1 (number r) less (forth c (number r) h.0)))
      (λ less. absurd (h.1 (number t) less (back c (number t) g.0))))
      (cases_order (number r) (number t))

-- replies that are the refusal of one number
same_refused : (k : ℕ) (r t : Result ℕ Refusal) → RefusedWith k r → RefusedWith k t → r ≡ t
same_refused k (Ok p) t h g = absurd h
same_refused k (Err r) (Ok q) h g = absurd g
same_refused k (Err r) (Err t) h g = ap Err (same-refusal r t (h ∙ sym g))

calls_alike : (m : ℕ) (a b a' b' : Meaning) (c : Call) (r t : Result ℕ Refusal) → TellAlike a b → Serves m a c a' r → Serves m b c b' t → r ≡ t
calls_alike zero a b a' b' c r t same h g = same_refused 1 r t (h.none refl).0 (g.none refl).0
calls_alike (suc m) a b a' b' c r t same h g =
    same_reply (suc m) a b a' b' same.image same.limit same.depth c r t (h.some (omega arith)) (g.some (omega arith))

pub alike : EqualWordsReplyAlike
alike = record {
  calls = calls_alike;
  questions = λ m a b q r t same h g. says_one m a.limit (levels a) a.image q r t h
      (subst₃ (λ d v ws. Says m d v ws q t) (sym same.limit) (sym same.depth) (sym same.image) g);
}
