use Rattle.std.proofs.Common.{vec_items}
use Rattle.planning.proofs.Asking.{texts_pushed, pathed}
use Rattle.planning.proofs.options.Draft.take_path.Goals as goal

pub returns : goal.returns
returns c =
    pathed c.args.word.now c.args.self.now c.push.new.self c.requires.plain c.requires.path
    (texts_pushed (vec_items c.args.self.now.paths) (vec_items c.push.new.self) c.in_ok-path.path c.args.word.now c.in_ok-push.ensures.items c.in_ok-path.ensures.ok)
