use Rattle.names.specs.Names.{spellings}
use Rattle.blif_io.proofs.Opening.{inputs_made, outputs_made, nothing_made, calls_nothing}
use Rattle.blif_io.proofs.calls.make_form.Goals as goal

pub returns-in-Inputs-clause-plays : goal.returns-in-Inputs-clause-plays
returns-in-Inputs-clause-plays g c =
    inputs_made c.args.desk.now c.make_listed.new.desk c.args.names.now.signals (spellings c.args.words.now) c.make_listed.result c.args.form c.in-Inputs.is c.make_listed.ensures.plays

pub returns-in-Outputs-clause-plays : goal.returns-in-Outputs-clause-plays
returns-in-Outputs-clause-plays g c =
    outputs_made c.args.desk.now c.make_listed-in-Outputs.new.desk c.args.names.now.signals (spellings c.args.words.now) c.make_listed-in-Outputs.result c.args.form c.in-Outputs.is c.make_listed-in-Outputs.ensures.plays

pub returns-in-Model-clause-plays : goal.returns-in-Model-clause-plays
returns-in-Model-clause-plays g c = nothing_made c.args.desk.now c.args.names.now.signals (spellings c.args.words.now) c.args.form (calls_nothing c.args.form c.in-Model.is)
