-- A site changes its view, and a ballot is opened and used in the new one: all of it is computed.
use Rattle.std.specs.Prelude.{refl}
use Rattle.std.specs.Int.Count.{ones, ones_in}
use Rattle.roster.specs.Roster.{valid_roster, quorum, weak_certificate, leader_of}
use Rattle.roster.specs.Mask.{unproven, bit, reaches, beyond, with_site}
use Rattle.roster.specs.Sites.{count_to, all_to, mask_to}
use Rattle.command.specs.Command.{valid_argument, valid_command, all_valid, wrong, field, proposer, kind, serial, slot, argument, same_request, kinds_table, kinds_conflict, conflict}
use Rattle.history.specs.History.{present, repeated, apart, free, least, without, ordered, canonical, equal, is_canonical, valid_history, improper, comes_off, extends}
use Rattle.history.specs.Words.{padded, valid_stored}
use Rattle.table.specs.Table.{in_range, row, stored_at, empty_table, valid_row, valid_table}
use Rattle.refusal.specs.Rules.{judged}
use Rattle.content.specs.Content.{contradicts}
use Rattle.frame.specs.Hex.{digit, is_digit, value_of, all_digits, byte_of, number_from, digits_of, spell, numbers, all_fit, total}
use Rattle.frame.specs.Kinds.{uses, is_kind, zero_unless, unused_zero}
use Rattle.frame.specs.Format.{line_of, proper, all_zero, fits, writable, framed, frame_of, is_line, reading_of, malformed, has_room, written_length, written}
use Rattle.site.specs.Site.{seated, valid_record}
use Rattle.viewchange.specs.ViewChange as viewchange
use Rattle.acceptor.specs.Acceptor as acceptor
use Rattle.agreement.specs.Testing.{sent_lines}
use Rattle.agreement.specs.Example.{four, A, said_in, buffer, tell, tell_change, changing, voting, changed_calls}
use Rattle.replica.specs.Example.{Changed, answers}
use Rattle.replica.specs.Calls.{after}

pub changed : Changed 0 1 2 × Changed 1 2 0 × Changed 2 0 1
unfolding
    four A said_in buffer tell tell_change changing voting changed_calls answers
    after sent_lines
    field proposer kind serial slot argument valid_argument valid_command all_valid wrong same_request kinds_table kinds_conflict conflict
    present repeated apart free least without ordered canonical equal is_canonical valid_history improper comes_off extends padded valid_stored
    valid_roster quorum weak_certificate leader_of bit reaches beyond unproven with_site ones ones_in count_to all_to mask_to
    in_range row stored_at empty_table valid_row valid_table
    judged
    digit is_digit value_of all_digits byte_of number_from digits_of spell numbers all_fit total
    uses is_kind zero_unless unused_zero line_of proper all_zero fits writable framed frame_of is_line reading_of malformed has_room written_length written
    seated valid_record
    acceptor.config acceptor.not_leader acceptor.opening acceptor.sign acceptor.lags contradicts
    acceptor.certificate_of acceptor.convinces acceptor.store acceptor.verifying acceptor.step
    viewchange.config viewchange.suspected viewchange.sets viewchange.suspicion viewchange.changed viewchange.join viewchange.step
changed = (
  record { by_kind = refl; own = refl; moved = refl; again = refl; taken = refl; stale = refl; early = refl; opened = refl; stays = refl; proven = refl; sent = refl },
  record { by_kind = refl; own = refl; moved = refl; again = refl; taken = refl; stale = refl; early = refl; opened = refl; stays = refl; proven = refl; sent = refl },
  record { by_kind = refl; own = refl; moved = refl; again = refl; taken = refl; stale = refl; early = refl; opened = refl; stays = refl; proven = refl; sent = refl },
)
