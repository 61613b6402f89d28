-- How long the body of a frame is.
use Rattle.std.proofs.Common.{◌≡◌, ℕ, ◌≤◌, ◌++◌, length, refl, arith}
use Rattle.std.proofs.lemmas.List.{length-append}
use Rattle.cc_messages.specs.declared.answer.Answer.{Answer}
use Rattle.cc_wire.specs.Answers.{answer_spelling}
use Rattle.cc_wire.specs.Spellings.{text_spelling}
use Rattle.cc_wire.specs.Events.{place_spelling}
use Rattle.cc_wire.proofs.Lengths.{length-answer, length-delivery, length-asked}
use Rattle.cc_connections.specs.declared.frame.Frame.{Frame}
use Rattle.cc_connections.specs.declared.frame.Frame.TheVariants as frames
use Rattle.cc_connections.specs.declared.hello.Hello.{Hello}
use Rattle.cc_connections.specs.declared.hello.Reason.{Reason}
use Rattle.cc_connections.specs.declared.hello.Reason.TheVariants as reasons
use Rattle.cc_connections.specs.Hellos.{nodes_spelling, quorums_spelling, marks_spelling, hello_spelling, IsHello, unwelcome_spelling}
use Rattle.cc_connections.specs.Frames.{replied_spelling, IsReplied, body_spelling, IsFrame}

-- a place and an answer
length-replied : (session request : ℕ) (a : Answer) → IsReplied session request a → length (replied_spelling session request a) ≤ 55059
length-replied session request a is = omega (arith, length-append (place_spelling session request) (answer_spelling a), length-answer a is.answer_fits)

-- a greeting
length-hello : (h : Hello) → IsHello h → length (hello_spelling h) ≤ 113
length-hello h is =
    omega (
      arith,
      length-append (text_spelling h.cluster) (nodes_spelling h ++ (quorums_spelling h ++ marks_spelling h)),
      is.cluster.text.fits,
    )

length-unwelcome : (reason : Reason) (node : ℕ) → length (unwelcome_spelling reason node) ≡ 5
length-unwelcome reasons.OtherCluster node = refl
length-unwelcome reasons.OtherNode node = refl
length-unwelcome reasons.OwnId node = refl
length-unwelcome reasons.OtherBirth node = refl
length-unwelcome reasons.OtherQuorums node = refl
length-unwelcome reasons.HasLeft node = refl

-- a post is the longest
pub length-body : (f : Frame) → IsFrame f → length (body_spelling f) ≤ 58139
length-body (frames.Post from n m) is = omega (arith, length-delivery from n m is)
length-body (frames.Ack from n) is = omega arith
length-body (frames.Ask session request c) is = omega (arith, length-asked session request c is)
length-body (frames.Reply session request a) is = omega (arith, length-replied session request a is)
length-body (frames.Refused session request refusal value) is = omega arith
length-body frames.Leave is = omega arith
length-body (frames.Retire node) is = omega arith
length-body (frames.Skip from posts) is = omega arith
length-body (frames.Hello hello) is = omega (arith, length-hello hello is)
length-body (frames.Welcome heard) is = omega arith
length-body (frames.Unwelcome reason node) is = omega (arith, length-unwelcome reason node)
length-body (frames.RetireIfSilent node) is = omega arith
length-body (frames.Share share) is = omega arith
length-body (frames.Doubled heard) is = omega arith

-- and at least its kind
pub length-body-positive : (f : Frame) → 1 ≤ length (body_spelling f)
length-body-positive (frames.Post from n m) = omega arith
length-body-positive (frames.Ack from n) = omega arith
length-body-positive (frames.Ask session request c) = omega arith
length-body-positive (frames.Reply session request a) = omega arith
length-body-positive (frames.Refused session request refusal value) = omega arith
length-body-positive frames.Leave = omega arith
length-body-positive (frames.Retire node) = omega arith
length-body-positive (frames.Skip from posts) = omega arith
length-body-positive (frames.Hello hello) = omega arith
length-body-positive (frames.Welcome heard) = omega arith
length-body-positive (frames.Unwelcome reason node) = omega arith
length-body-positive (frames.RetireIfSilent node) = omega arith
length-body-positive (frames.Share share) = omega arith
length-body-positive (frames.Doubled heard) = omega arith
