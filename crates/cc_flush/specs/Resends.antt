-- What a node may put out again.
--     waits_for           a link is sent that post, and hasn't acknowledged it
--     resend_on           a kept post on a link that waits for it
--     resend_row          the same of a link's row, unless its peer has left
--     resend_post         on each live link, by ascending peer
--     resends             each kept post so, by ascending number
--     reply_again         the kept answer of a session, under its last request
--     ack_again           the last number that was heard from a peer
use Rattle.std.specs.Prelude.{ℕ, ◌-◌, ◌&&◌, Bool, List, [], ◌∷◌, Option, Some, None, nat_lt, if◌then◌else◌}
use Rattle.std.specs.List.{flat_map}
use Rattle.std.specs.FinMap as table
use Rattle.cc_views.specs.NatSets as set
use Rattle.cc_links.specs.declared.link_row.LinkRow.{LinkRow}
use Rattle.cc_links.specs.Links.{Link, heard_from}
use Rattle.cc_links.specs.Rows.{entry_of}
use Rattle.cc_messages.specs.declared.answer.Answer.{Answer}
use Rattle.cc_messages.specs.declared.message.Message.{Message}
use Rattle.cc_messages.specs.declared.output.Output.{Output}
use Rattle.cc_messages.specs.declared.output.Output.TheVariants as output
use Rattle.cc_node.specs.Core.{Core, live_links}
use Rattle.cc_node.specs.Node.{Node}

abbrev pub waits_for : ℕ → Link → Bool
waits_for number link = nat_lt link.start number && nat_lt link.acked (number - link.start)

abbrev pub resend_on : ℕ × Message → ℕ × Link → List Output
resend_on post row = if waits_for post.0 row.1 then output.Send row.0 (post.0 - row.1.start) post.1 ∷ [] else []

abbrev pub resend_row : Core → ℕ × Message → LinkRow → List Output
resend_row core post row = if set.contains core.churn.changes.left row.peer then [] else resend_on post (entry_of row)

abbrev pub resend_post : Core → ℕ × Message → List Output
resend_post core post = flat_map (resend_on post) (table.entries (live_links core))

abbrev pub resends : Node → List Output
resends node = flat_map (resend_post node.core) (table.entries node.outbox.posts)

abbrev pub reply_of : ℕ → Option ℕ → Option Answer → List Output
reply_of session None kept = []
reply_of session (Some request) None = []
reply_of session (Some request) (Some answer) = output.Reply session request answer ∷ []

abbrev pub reply_again : ℕ → Node → List Output
reply_again session node = reply_of session (table.get node.core.sessions session) (table.get node.outbox.answers session)

abbrev pub ack_again : ℕ → Node → List Output
ack_again peer node =
    let heard = heard_from peer node.core.links in
    if nat_lt 0 heard then output.Ack peer heard ∷ [] else []
