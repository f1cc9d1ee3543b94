mod Learnt
