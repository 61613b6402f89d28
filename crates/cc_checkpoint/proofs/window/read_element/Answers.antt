use Rattle.cc_checkpoint.proofs.Ahead.{err_is, used, taken, no_refill, element, no_element}
use Rattle.cc_checkpoint.proofs.window.read_element.Goals as goal

pub returns-in_err-refill-clause-exact : goal.returns-in_err-refill-clause-exact
returns-in_err-refill-clause-exact g c =
    let told = c.in_err-refill.ensures in
    rw (err_is c.from_residual.result c.from_residual.ensures.1) (no_refill g.S.Site told.run told.device)

pub returns-in_err-found-clause-exact : goal.returns-in_err-found-clause-exact
returns-in_err-found-clause-exact g c =
    let format = g.E.Element.format c.args.element.now in
    let told = c.in_ok-refill.ensures in
    let reaches = rw c.most.ensures.exact at told.reaches in
    let fails = rw c.reader-reader.ensures.value at c.in_err-found.ensures.exact in
    let stop = c.from_residual-in_err-found in
    rw (err_is stop.result stop.ensures.1)
    (no_element g.S.Site format.spelled format.most format.small told.run told.same told.bytes reaches _ fails)

pub advance-requires : goal.advance-requires
advance-requires g c =
    let format = g.E.Element.format c.args.element.now in
    let piece = c.reader-reader.ensures in
    used format.spelled piece.value piece.bytes c.in_ok-found.ensures.exact c.len.ensures

pub returns-clause-exact : goal.returns-clause-exact
returns-clause-exact g c =
    let format = g.E.Element.format c.args.element.now in
    let told = c.in_ok-refill.ensures in
    let piece = c.reader-reader.ensures in
    element g.S.Site format.spelled told.run told.same told.bytes
    (taken format.spelled piece.value piece.bytes c.in_ok-found.ensures.exact c.len.ensures c.advance.ensures)
