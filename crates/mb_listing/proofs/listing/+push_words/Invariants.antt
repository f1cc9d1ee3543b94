use Rattle.mb_listing.proofs.listing.+push_words.Given as goal

abbrev pub decreases-push_words : goal.decreases-push_words
decreases-push_words l = l.most
