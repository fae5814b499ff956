-- A gate is added behind its cover.
use Rattle.std.proofs.Common.{◌≡◌, ℕ, ◌+◌, List, [], ◌∷◌, map, length, Some, None, Ok, Err, Option, Result, sym, refl, ap, ◌∙◌, subst, arith}
use Rattle.table.specs.Line.{Line, Means, Gives}
use Rattle.table.specs.Cover.{Read}
use Rattle.names.specs.declared.table.NameTable.{NameTable}
use Rattle.netlist.specs.declared.edit.Edit.{Edit}
use Rattle.netlist.specs.declared.edit.Edit.TheVariants.{Gate}
use Rattle.netlist.specs.declared.edit.Refusal.{Refusal}
use Rattle.netlist.specs.Edits.{signal_of}
use Rattle.editor.specs.declared.call.Call.TheVariants.{Make}
use Rattle.editor.specs.Log.{Entry}
use Rattle.desk.specs.State.{State}
use Rattle.desk.specs.Plays.{Plays as PlaysCall}
use Rattle.blif_io.specs.declared.place.Place.TheVariants as here
use Rattle.blif_io.specs.declared.place.Before.TheVariants as front
use Rattle.blif_io.specs.declared.place.OpenGate.{OpenGate}
use Rattle.blif_io.specs.declared.place.Refused.{Refused}
use Rattle.blif.specs.Statement.{names}
use Rattle.blif.specs.Form.{statements}
use Rattle.blif.specs.Description.{Claim, drives, Claims}
use Rattle.blif.specs.Description as source
use Rattle.blif.specs.Calls.{edit_of, Made, all, accepted, refused, number_of}
use Rattle.blif.specs.File.{Point, at, covering, Lines, gate, gate_refused, refusal}
use Rattle.blif_io.specs.Taking.{met, Stands, Replied, Takes, Uncovered}

abbrev step : Edit → Result ℕ Refusal → Entry
step e r = record { call = Make e; reply = r }

module _ (m : ℕ) (d d' : State) (t : NameTable) (g : OpenGate) (p : Point) (h : Stands t.signals (here.Covering g) p) (many bits : ℕ) (few : many ≡ g.cover.listed.pins)
    (gives : (lines : List Line) → Read lines g.cover → Gives g.cover.listed.pins lines bits) where
  abbrev pub edit : Edit
  edit = Gate g.signal many g.nets bits

  abbrev claim : Claim
  claim = drives h.1 (source.gate bits h.0)

  claims : Claims (names h.0 h.1 h.2) (claim ∷ [])
  claims = (bits, subst (λ k. Means k h.2 bits) h.6 (gives h.2 h.7).1, refl)

  same : edit ≡ edit_of t.signals claim
  same =
      ap (λ s. Gate s many g.nets bits) h.4 ∙ ap (λ k. Gate (number_of t.signals h.1) k g.nets bits) (few ∙ h.6) ∙ ap (λ ns. Gate (number_of t.signals h.1) (length h.0) ns bits) h.5

  made : (own : List Entry) (count : ℕ) (end : Option (Refusal × ℕ)) → Made (edit ∷ []) own count end → Made (map (edit_of t.signals) (claim ∷ [])) own count end
  made own count end k = subst (λ e. Made (e ∷ []) own count end) same k

  pub closed : (reply : Result ℕ Refusal) (told : ℕ) → PlaysCall d (Make edit) d' reply → Replied edit reply (Ok told) → Takes m d (met t) p [] Uncovered d' t (Ok (record { place = here.At front.Statements; count = told }))
  closed (Ok count) told k r = (
    step edit (Ok count) ∷ [],
    at statements,
    (d', k, refl),
    refl,
    λ rs later t' total end un more.
        subst (λ s. Lines m p (met t) rs (step edit (Ok count) ∷ later) t' (s + total) end) (omega (arith, r))
        (subst (λ q. Lines m q (met t) rs (step edit (Ok count) ∷ later) t' (count + 0 + total) end) (sym h.3) (gate (claim ∷ []) un claims (made (step edit (Ok count) ∷ []) (count + 0) None (accepted count all)) more)),
  )
  closed (Err nay) told k r = absurd r

  pub unclosed : (reply : Result ℕ Refusal) (f : Refused) → PlaysCall d (Make edit) d' reply → Replied edit reply (Err f) → Takes m d (met t) p [] Uncovered d' t (Err (refusal f.refusal g.line (Some f.signal)))
  unclosed (Ok count) f k r = absurd r
  unclosed (Err nay) f k r = (
    step edit (Err nay) ∷ [],
    (d', k, refl),
    λ rs un. (
      0,
      subst (λ q. Lines m q (met t) rs (step edit (Err nay) ∷ []) (met t) 0 (Some (refusal f.refusal g.line (Some f.signal)))) (sym h.3)
          (subst (λ q. Lines m (covering g.line h.0 h.1 h.2) (met t) rs (step edit (Err nay) ∷ []) (met t) 0 (Some (refusal q g.line (Some f.signal)))) (sym r.0)
          (subst (λ q. Lines m (covering g.line h.0 h.1 h.2) (met t) rs (step edit (Err nay) ∷ []) (met t) 0 (Some (refusal nay g.line (Some q)))) (sym r.1)
          (gate_refused (claim ∷ []) nay (signal_of edit) un claims (made (step edit (Err nay) ∷ []) 0 (Some (nay, signal_of edit)) (refused nay))))),
    ),
  )
