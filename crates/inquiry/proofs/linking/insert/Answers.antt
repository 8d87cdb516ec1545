use Rattle.inquiry.proofs.Placing.{put_in}
use Rattle.inquiry.proofs.linking.insert.Goals as goal

pub returns : goal.returns
returns c = put_in c.args.edges.now c.args.used c.args.place c.requires.within c.requires.room c.args.edge c.rotate_right.new.self c.rotate_right.ensures.after
