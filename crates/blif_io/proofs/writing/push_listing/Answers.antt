use Rattle.std.proofs.Common.{◌++◌, ap, ◌∙◌, subst}
use Rattle.std.specs.Prelude.{MatchBool, [], ◌≡◌, ◌≢◌}
use Rattle.board.specs.Board.{netlist_of}
use Rattle.blif.specs.Description.{name_of}
use Rattle.blif_io.specs.Writing.{listed_below}
use Rattle.blif_io.proofs.Pushing.{word_line, listing_spelled}
use Rattle.blif_io.proofs.writing.push_listing.Goals as goal

pub returns-in_ok-push : goal.returns-in_ok-push
returns-in_ok-push g c =
    let listed = listed_below c.args.listing (netlist_of c.args.editor.now.signals c.args.editor.now.words.image) c.args.editor.now.signals in
    listing_spelled c.args.listing (name_of c.args.names.now.signals) listed _ _ (subst (λ b. MatchBool b (listed ≢ []) (listed ≡ [])) c.if-any_listed.true c.any_listed.ensures)
    (word_line _ _ _ _ _ _ (c.in_ok-extend_from_slice.ensures.items ∙ ap (λ l. c.args.out.now.items ++ l) c.keyword.ensures) c.in_ok-push_listed.ensures c.in_ok-push.ensures.items)
