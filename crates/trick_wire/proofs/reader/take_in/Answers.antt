use Rattle.std.proofs.Common.{rules, ◌≡◌, ◌≢◌, Err, true, refl, ◌∙◌}
use Rattle.trick_command.specs.declared.feed_fault.FeedFault.TheVariants.{LongLine, OutOfMemory}
use Rattle.trick_wire.proofs.Reading.{cut_piece, fed_pushed, fed_put, held_fed, put_closed, put_end, put_memory}
use Rattle.trick_wire.proofs.reader.take_in.Goals as goal

pub returns-then-not-put_lines-clause-fed : goal.returns-then-not-put_lines-clause-fed
returns-then-not-put_lines-clause-fed g c = λ read f none.
    let old = c.args.feed.now in let mid = c.push-pushed.new.self in let taken = c.push-pushed.ensures.taken in
    put_closed mid _ _ _ _ _ (fed_pushed old mid read taken.0 _ f taken.3) (cut_piece old mid read c.args.piece.now taken) c.put_lines.ensures.some

pub returns-in-Ok-clause-fed : goal.returns-in-Ok-clause-fed
returns-in-Ok-clause-fed g c = λ read f none.
    let old = c.args.feed.now in let mid = c.push-pushed.new.self in let new = c.put_lines.new.feed in
    let fine : c.push-pushed.result ≢ Err OutOfMemory = search rules in let done : c.put_lines.result ≡ true = search rules in (
      fed_put mid new _ _ _ (fed_pushed old mid read c.args.piece.now _ f (c.push-pushed.ensures.bytes fine)) c.put_lines.ensures.held (c.put_lines.ensures.all done) (c.put_lines.ensures.put done),
      c.put_lines.ensures.all done,
    )

pub returns-in-Err-LongLine-clause-fed : goal.returns-in-Err-LongLine-clause-fed
returns-in-Err-LongLine-clause-fed g c = λ read f none.
    let old = c.args.feed.now in let mid = c.push-pushed.new.self in let new = c.put_lines.new.feed in
    let fine : c.push-pushed.result ≢ Err OutOfMemory = search rules in let done : c.put_lines.result ≡ true = search rules in
    let long : c.push-pushed.result ≡ Err LongLine = search rules in
    let after = fed_put mid new _ _ _ (fed_pushed old mid read c.args.piece.now _ f (c.push-pushed.ensures.bytes fine)) c.put_lines.ensures.held (c.put_lines.ensures.all done) (c.put_lines.ensures.put done) in
    put_end new _ _ _ _ _ after (c.put_lines.ensures.all done) refl (held_fed new _ _ after ∙ c.put_lines.ensures.held ∙ (c.push-pushed.ensures.long).0 long) c.put_last.ensures.last

pub returns-in-Err-OutOfMemory-clause-fed : goal.returns-in-Err-OutOfMemory-clause-fed
returns-in-Err-OutOfMemory-clause-fed g c = λ read f none.
    let old = c.args.feed.now in let mid = c.push-pushed.new.self in let new = c.put_lines.new.feed in let taken = c.push-pushed.ensures.taken in
    let done : c.put_lines.result ≡ true = search rules in
    let after = fed_put mid new _ _ _ (fed_pushed old mid read taken.0 _ f taken.3) c.put_lines.ensures.held (c.put_lines.ensures.all done) (c.put_lines.ensures.put done) in
    put_memory new _ _ _ _ _ _ after (c.put_lines.ensures.all done) (cut_piece old mid read c.args.piece.now taken) c.put_last-in-Err-OutOfMemory.ensures.last
